-- The lines of a log without queries, and the dates in them.
use Rattle.std.proofs.Common.{◌≡◌, ℕ, ℤ, List, codes, Bool, false, Option, Some, None, refl, inl, inr}
use Rattle.std.specs.Prelude.{MatchOption, is_some, if◌then◌else◌}
use Rattle.std.specs.Option.{option_map_or}
use Rattle.std.proofs.lemmas.Bool.{cases_Bool}
use Rattle.feed_dates.specs.Days.{IsDateOf, day_of_date}
use Rattle.feed_dates.proofs.Dates.{one_date, date_read}
use Rattle.feed_bytes.specs.Split.{split_once}
use Rattle.node_monitoring.specs.Queries.{first_line}
use Rattle.feed_http_heads.specs.Targets.{origin_form}
use Rattle.node_request.specs.Routes.{path_in}
use Rattle.node_monitoring.specs.ShownPaths.{is_dated, is_shown_path}
use Rattle.node_monitoring.specs.ShownLines.{behind_method, is_known_method, is_version, line_of_parts, shown_method, shown_target, IsDashOr, IsPlain, LinesArePlain}

undated : (text : List ℕ) (found : Option ℤ) → day_of_date text ≡ found → ((n : ℤ) → ¬ (IsDateOf n text)) → false ≡ is_dated text
undated text None e none = rw e refl
undated text (Some n) e none = absurd (none n (date_read n text e))

pub dated : (text : List ℕ) (found : Option ℤ) → MatchOption found ((n : ℤ) → ¬ (IsDateOf n text)) (λ n. IsDateOf n text) → is_some found ≡ is_dated text
dated text None none = undated text (day_of_date text) refl none
dated text (Some n) is = rw (one_date n text is) refl

dash_or : (test : List ℕ → Bool) (text : List ℕ) → IsDashOr test (if test text then text else codes "-")
dash_or test text = elim (cases_Bool (test text)) [
  | inl e ↦ rw e (inr e)
  | inr e ↦ rw e (inl refl)
]

parts_plain : (method target version : List ℕ) → IsPlain (line_of_parts method target version)
parts_plain method target version = elim (cases_Bool (is_version version)) [
  | inl e ↦ rw e (inr (shown_method method, shown_target target, version, dash_or is_known_method method, dash_or is_shown_path (path_in (origin_form target)), e, refl))
  | inr e ↦ rw e (inl refl)
]

behind_plain : (method : List ℕ) (parts : Option (List ℕ × List ℕ)) → IsPlain (option_map_or (λ parts. line_of_parts method parts.0 parts.1) parts (codes "-"))
behind_plain method None = inl refl
behind_plain method (Some (target, version)) = parts_plain method target version

line_plain : (parts : Option (List ℕ × List ℕ)) → IsPlain (option_map_or (λ parts. behind_method parts.0 parts.1) parts (codes "-"))
line_plain None = inl refl
line_plain (Some (method, rest)) = behind_plain method (split_once 32 rest)

pub plain : LinesArePlain
plain request = line_plain (split_once 32 (first_line request))
