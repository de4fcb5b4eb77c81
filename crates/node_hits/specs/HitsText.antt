-- The answer of a release as text: like `Answer::write`, but of the hits that are counted and shown.
use Rattle.std.specs.Prelude.{ℕ, ◌-◌, ◌==◌, if◌then◌else◌, Bool, List, ◌++◌, length, drop, codes}
use Rattle.std.specs.List.{flat_map}
use Rattle.std.specs.Fmt.{decimal}
use Rattle.feed_names.specs.ReleaseName.{Name, text_of}
use Rattle.feed_answer.specs.Answers.{head_line, hit_line}
use Rattle.node_hits.specs.Hits.{ReleaseHitValue}
use Rattle.node_hits.specs.Tallies.{TallyValue}

-- the line before the hits of a release that may have more
unfoldable pub cut_head_line : List ℕ → ℕ → List ℕ
cut_head_line name count = codes "release " ++ (name ++ (codes " hits at least " ++ (decimal count ++ codes "\n")))

-- the line before the hits of a release
abbrev pub release_head_line : List ℕ → ℕ → Bool → List ℕ
release_head_line name count is_whole = if is_whole then head_line name count else cut_head_line name count

-- the line of a hit
abbrev pub release_hit_line : ReleaseHitValue → List ℕ
release_hit_line found = hit_line found.hit

-- the answer of a release, by the tallies of the hits before it and up to it: how many of its hits are counted, whether these
-- are all, and those of them that are shown
unfoldable pub release_text : TallyValue → TallyValue → Name → List ℕ
release_text before after name =
    release_head_line (text_of name) (after.count - before.count) (length after.partial == length before.partial)
    ++ flat_map release_hit_line (drop (length before.shown) after.shown)
