-- Laws of entity tags, and of the responses to clients that have them.
use Rattle.std.specs.Prelude.{◌≡◌, ◌&&◌, not, ℕ, Bool, true, if◌then◌else◌, List, All, codes}
use Rattle.std.specs.List.{filter}
use Rattle.std.specs.Str.{str_eq_ignore_ascii_case}
use Rattle.httparse.specs.Grammar.{RequestHead}
use Rattle.feed_answer.specs.Today.{TodayValue}
use Rattle.feed_names.specs.ReleaseName.{Name}
use Rattle.feed_model.specs.History.{History}
use Rattle.feed_releases.specs.Actives.{ActiveValue, IsReported, AreReported, ReportAlike, names_of}
use Rattle.node_request.specs.Conditions.{has_tag}
use Rattle.node_request.specs.declared.representation.Representation.{Representation}
use Rattle.node_response.specs.Responses.{ResponseValue, ResponseTextValue, is_good, not_modified}
use Rattle.node_response.specs.Tags.{SiteValue}
use Rattle.node_resolver.specs.Answers.{Dated, dated}
use Rattle.node_resolver.specs.Laws.{KeepsPublished}
use Rattle.node_resolver.specs.Responses.{IsResponse, tagged_response}
use Rattle.node_resolver.specs.Validators.{is_tagged, tag_of, tag_to}

-- two nodes of the same version, settings and site file that report the same releases have the same tags on a day
abbrev pub SameReleasesSameTag : Type 0
SameReleasesSameTag =
    (site : SiteValue) (today : TodayValue) (h k : History) (one other : List ActiveValue) (representation : Representation)
    → ReportAlike h k → AreReported h one → AreReported k other
    → tag_of site (dated today one) representation ≡ tag_of site (dated today other) representation

-- the inputs of a tag determine the response. From published files of the same names, two nodes of the same version,
-- settings and site file give each request of a day the same bytes
abbrev pub SameInputsSameBytes : Type 0
SameInputsSameBytes =
    (file : Name → List ℕ) (site : SiteValue) (today : TodayValue) (h k : History) (one other : List ActiveValue)
    (bytes body : List ℕ) (keeps : Bool) (response reply : ResponseTextValue)
    → KeepsPublished file h → KeepsPublished file k → All (IsReported h) one → All (IsReported k) other
    → names_of one ≡ names_of other
    → IsResponse site bytes body keeps (dated today one) response → IsResponse site bytes body keeps (dated today other) reply
    → response ≡ reply

-- the same request without its If-None-Match fields
abbrev pub without_condition : RequestHead → RequestHead
without_condition head = record {
  blank = head.blank;
  method = head.method;
  target = head.target;
  minor = head.minor;
  line_end = head.line_end;
  fields = filter (λ field. not (str_eq_ignore_ascii_case field.name (codes "if-none-match"))) head.fields;
  last = head.last;
}

-- the response to a client that has the tag or not, from the one to a client without a condition: only a 200 becomes a
-- 304, which has its tag
abbrev pub conditional : Bool → ResponseValue → ResponseValue
conditional has reply = if has && is_good reply.status then not_modified reply.tag reply.max_age reply.representation else reply

-- a 304 replaces a 200 alone, and has the tag that the 200 would have had
abbrev pub NotModifiedHasTagOfGood : Type 0
NotModifiedHasTagOfGood = (site : SiteValue) (head : RequestHead) (body : List ℕ) (actives : Dated) → is_tagged head ≡ true
    → tagged_response site head body actives ≡ conditional (has_tag (tag_to site actives head) head) (tagged_response site (without_condition head) body actives)
