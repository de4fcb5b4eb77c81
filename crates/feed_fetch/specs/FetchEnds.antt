-- The exit status after a fetch, and the last lines of the response to its client.
use Rattle.std.specs.Prelude.{◌≡◌, ◌⊎◌, ◌++◌, ℕ, List, [], Option, None, Some, codes}
use Rattle.std.specs.Fmt.{decimal}
use Rattle.std.specs.Option.{option_map}
use Rattle.feed_kbart.specs.Reasons.{bad_file_text}
use Rattle.feed_kbart.specs.declared.fault.BadFile.{BadFile}
use Rattle.feed_names.specs.ReleaseName.{Name}
use Rattle.feed_model.specs.History.{History}
use Rattle.feed_fetch.specs.Answers.{status_of}
use Rattle.feed_fetch.specs.Effects.{IsReported}
use Rattle.feed_fetch.specs.Lines.{line_of}
use Rattle.feed_fetch.specs.declared.stop.Stop.{Stop}
use Rattle.feed_fetch.specs.declared.stop.Stop.TheVariants.{NoProgress, Request}
use Rattle.feed_fetch.specs.declared.fetch_end.FetchEnd.{FetchEnd}
use Rattle.feed_fetch.specs.declared.fetch_end.FetchEnd.TheVariants.{Done, Stopped, NoRanges, Canceled, TimedOut}

-- the status after a fetch that ended so: if it is done, 0 exactly if the release is reported, and otherwise that of the
-- stop; 4 if the node ended the fetch before
abbrev pub IsEndStatus : Name → FetchEnd → ℕ → History → Type 0
IsEndStatus n Done status h = ((status ≡ 0) × IsReported n h) ⊎ ((status ≡ 1) × ¬ (IsReported n h))
IsEndStatus n (Stopped stop) status h = status ≡ status_of stop
IsEndStatus n NoRanges status h = status ≡ 1
IsEndStatus n Canceled status h = status ≡ 4
IsEndStatus n TimedOut status h = status ≡ 4

-- the line of a stop that is a fault; the others were lines of events. No definition has the name of a fault of a request
abbrev pub stop_lines : Stop → Option (List ℕ)
stop_lines NoProgress = Some (line_of (codes "kbfeed: NoProgress"))
stop_lines (Request fault) = None
stop_lines stop = Some []

-- the line with the fault that ended a fetch, or with why the release is broken
abbrev pub reason_lines : FetchEnd → Option BadFile → Option (List ℕ)
reason_lines Done None = Some []
reason_lines Done (Some why) = Some (line_of (codes "broken " ++ bad_file_text why))
reason_lines (Stopped stop) why = stop_lines stop
reason_lines NoRanges why = Some (line_of (codes "kbfeed: NoRanges"))
reason_lines Canceled why = Some (line_of (codes "kbfeed: Canceled"))
reason_lines TimedOut why = Some (line_of (codes "kbfeed: FetchTimeout"))

-- the text of an exit status
abbrev pub status_text : ℕ → List ℕ
status_text status = codes "status " ++ decimal status

-- the last lines: the reason, and then the status
abbrev pub end_text : FetchEnd → Option BadFile → ℕ → Option (List ℕ)
end_text end why status = option_map (λ reason. reason ++ line_of (status_text status)) (reason_lines end why)
