-- Which faults the head of a response may have.
use Rattle.std.proofs.Common.{◌≡◌, ◌+◌, ◌-◌, ℕ, List, [], ◌∷◌, Option, Some, None, IfErr, Result, Ok, Err, Bool, true, false, sym, subst}
use Rattle.std.specs.Prelude.{nat_lt, not, ◌==◌, ◌&&◌, if◌then◌else◌}
use Rattle.std.specs.Option.{option_map_or}
use Rattle.httparse.specs.Grammar.{ResponseHead, status_code}
use Rattle.feed_range.specs.declared.content.ContentRange.{ContentRange}
use Rattle.feed_range.specs.declared.content.ContentRange.TheVariants as range
use Rattle.feed_http_heads.specs.declared.http_fault.HttpFault.{HttpFault}
use Rattle.feed_http_heads.specs.declared.http_fault.HttpFault.TheVariants as fault
use Rattle.feed_http.specs.declared.fetching.got.Method.{Method}
use Rattle.feed_http.specs.declared.fetching.validation.Framing.{Framing}
use Rattle.feed_http.specs.declared.fetching.validation.Framing.TheVariants.{Chunked, Sized, ToEnd}
use Rattle.feed_http.specs.declared.fetching.validation.Announcement.{Announcement}
use Rattle.feed_http.specs.declared.fetching.validation.Announcement.TheVariants.{Missing, Unsatisfied, Part, Whole}
use Rattle.feed_limits.specs.Limits.{piece_limit, file_limit}
use Rattle.feed_http.specs.Announcements.{is_get, values, has_file_status, is_transfer_coded, is_coded_otherwise, stated_of, common_length, stated_length, content_length, framing_by_length}
use Rattle.feed_http.specs.Announcements.{framing_of, range_of}
use Rattle.feed_http.specs.Announcements.{part_with_framing, part_announcement, whole_announcement, size_announcement, unsatisfied_announcement, unsatisfied_by_head, file_announcement}
use Rattle.feed_http.specs.Announcements.{announcement_of}
use Rattle.feed_http_heads.specs.Fields.{has_any}
use Rattle.feed_http.specs.ArrivingChunks.{IsShown}
use Rattle.std.specs.Prelude.{codes}

-- one of two judgements
either : (b : Bool) (x y : Result Announcement HttpFault) → IfErr x IsShown → IfErr y IsShown → IfErr (if b then x else y) IsShown
either true x y p q = p
either false x y p q = q

stated : (all : List (List ℕ)) → IfErr (stated_of all) IsShown
stated [] = tt
stated (value ∷ more) = told (common_length (value ∷ more))
  where
    told : (length : Option ℕ) → let gives : ℕ → Result (Option ℕ) HttpFault = λ n. Ok (Some n) in IfErr (option_map_or gives length (Err fault.Length)) IsShown
    told None = tt
    told (Some n) = tt

framed : (length : Result (Option ℕ) HttpFault) → IfErr length IsShown → IfErr (framing_by_length length) IsShown
framed (Ok (Some n)) is = tt
framed (Ok None) is = tt
framed (Err e) is = is

framing : (head : ResponseHead) → IfErr (framing_of head) IsShown
framing head = by_coding (is_transfer_coded head)
  where
    by_coding : (coded : Bool) → IfErr (if coded then Ok Chunked else framing_by_length (stated_length head)) IsShown
    by_coding true = tt
    by_coding false = framed (stated_length head) (stated (values content_length head))

part_framing : (first : ℕ) (total : Option ℕ) (count : ℕ) (framing : Result Framing HttpFault) → IfErr framing IsShown → IfErr (part_with_framing first total count framing) IsShown
part_framing first total count (Ok Chunked) is = tt
part_framing first total count (Ok ToEnd) is = tt
part_framing first total count (Ok (Sized n)) is = either (n == count) (Ok (Part first total count (Sized n))) (Err fault.Length) tt tt
part_framing first total count (Err e) is = is

part : (range : Option ContentRange) (framing : Result Framing HttpFault) → IfErr framing IsShown → IfErr (part_announcement range framing) IsShown
part (Some (range.Part first last total)) framing is =
    either (nat_lt piece_limit (last - first + 1)) (Err fault.BodyTooLong) (part_with_framing first total (last - first + 1) framing) tt (part_framing first total (last - first + 1) framing is)
part (Some (range.Unsatisfied total)) framing is = tt
part None framing is = tt

whole : (framing : Result Framing HttpFault) → IfErr framing IsShown → IfErr (whole_announcement framing) IsShown
whole (Ok Chunked) is = tt
whole (Ok ToEnd) is = tt
whole (Ok (Sized n)) is = either (nat_lt file_limit n) (Err fault.BodyTooLong) (Ok (Whole (Sized n))) tt tt
whole (Err e) is = is

sized : (length : Result (Option ℕ) HttpFault) → IfErr length IsShown → IfErr (size_announcement length) IsShown
sized (Ok (Some n)) is = tt
sized (Ok None) is = tt
sized (Err e) is = is

unsatisfied : (range : Option ContentRange) → IfErr (unsatisfied_announcement range) IsShown
unsatisfied (Some (range.Unsatisfied total)) = tt
unsatisfied (Some (range.Part first last total)) = tt
unsatisfied None = tt

unsatisfied_head : (head : ResponseHead) → IfErr (unsatisfied_by_head head) IsShown
unsatisfied_head head = either (has_any (values (codes "content-range") head)) (unsatisfied_announcement (range_of head)) (Ok (Unsatisfied None)) (unsatisfied (range_of head)) tt

file : (method : Method) (head : ResponseHead) → IfErr (file_announcement method head) IsShown
file method head = either (is_coded_otherwise method head) (Err fault.Coding) _ tt
    (either (not (is_get method)) (size_announcement (stated_length head)) _ (sized (stated_length head) (stated (values content_length head)))
    (either (status_code head == 206) (part_announcement (range_of head) (framing_of head)) (whole_announcement (framing_of head)) (part (range_of head) (framing_of head) (framing head)) (whole
    (framing_of head) (framing head))))

announced_faults : (method : Method) (head : ResponseHead) → IfErr (announcement_of method head) IsShown
announced_faults method head = either (status_code head == 404) (Ok Missing) _ tt
    (either ((status_code head == 416) && is_get method) (unsatisfied_by_head head) _ (unsatisfied_head head)
    (either (not (has_file_status method head)) (Err (fault.Status (status_code head))) (file_announcement method head) tt (file method head)))

pub announced_fault : (method : Method) (head : ResponseHead) (e : HttpFault) → Err e ≡ announcement_of method head → IsShown e
announced_fault method head e is = let P : Result Announcement HttpFault → Type 0 = λ r. IfErr r IsShown in subst P (sym is) (announced_faults method head)
