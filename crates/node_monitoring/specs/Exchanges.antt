-- The amounts that a request and its response add to the counters, and the line of the request in the log.
use Rattle.std.specs.Prelude.{◌≡◌, ◌⊎◌, ◌==◌, ◌&&◌, ◌||◌, ◌/◌, ℕ, Bool, nat_lt, nat_le, if◌then◌else◌}
use Rattle.std.specs.Prelude.{List, [], ◌∷◌, ◌++◌, length, codes, unwrap_or}
use Rattle.std.specs.Char.{is_ascii_hexdigit}
use Rattle.std.specs.List.{list_all}
use Rattle.httparse.specs.Grammar.{Field, RequestHead}
use Rattle.feed_http_heads.specs.Fields.{values_named, only}
use Rattle.node_request.specs.FoundRequests.{BeginsWith, HasNoHead}
use Rattle.node_monitoring.specs.Forwarded.{forwarded_element}
use Rattle.node_monitoring.specs.LogLines.{EntryValue, line_text}
use Rattle.node_monitoring.specs.Queries.{page_of}
use Rattle.node_monitoring.specs.Counts.{Added, HasCounted, place_of, class_of, request_place}
use Rattle.node_monitoring.specs.Histograms.{HasObserved, times_of}
use Rattle.node_monitoring.specs.MetricsTexts.{MetricsValue}
use Rattle.node_monitoring.specs.declared.counter.Counter.TheVariants as counter
use Rattle.node_monitoring.specs.declared.histogram.Timing.TheVariants.{Request}
use Rattle.node_monitoring.specs.declared.request_kind.Target.{Target}
use Rattle.node_monitoring.specs.declared.request_kind.Target.TheVariants as target
use Rattle.node_monitoring.specs.declared.log_line.LoggedExchange.{LoggedExchange}
use Rattle.node_monitoring.specs.declared.log_line.LogPolicy.{LogPolicy}
use Rattle.node_monitoring.specs.Reports.{gets_report}
use Rattle.node_monitoring.specs.ShownLines.{shown_line}
use Rattle.node_monitoring.specs.SiteNames.{site_added}
use Rattle.node_monitoring.specs.Targets.{target_of}

-- ---- counters

-- one more request of a target, with the status of its response
abbrev pub request_added : Target → LoggedExchange → Added
request_added named e = record { place = request_place named (class_of e.status); amount = 1 }

-- a token that was refused, if the status is 401 (RFC 9110, section 15.5.2)
abbrev pub refused_by : ℕ → List Added
refused_by status = if status == 401 then (record { place = place_of counter.RefusedToken; amount = 1 }) ∷ [] else []

-- the bytes of the response that were sent, and those of the request
abbrev pub bytes_by : LoggedExchange → List Added
bytes_by e =
    (record { place = place_of counter.ReplyBytes; amount = e.sent })
    ∷ (record { place = place_of counter.RequestBytes; amount = length e.received.bytes.now }) ∷ []

-- what is added to the counters, the last first
abbrev pub added_by : LoggedExchange → List Added
added_by e = refused_by e.status ++ bytes_by e

-- what the bytes of a request name
abbrev pub IsTargetIn : List ℕ → Target → Type 0
IsTargetIn bytes named =
    (HasNoHead bytes × (named ≡ target.Other)) ⊎ ((head : RequestHead) × BeginsWith bytes head × (named ≡ target_of head))

-- the request was counted once, under its target and the class of its status, and under the site that responded if it has a
-- name, and its time was observed once
pub record HasCountedRequest (e : LoggedExchange) (old new : MetricsValue) : Type 0 where
  pub named : Target
  pub is : IsTargetIn e.received.bytes.now named
  pub requests : (history : List Added) → HasCounted old.requests history → HasCounted new.requests (request_added named e ∷ history)
  pub times : (observed : List ℕ) → HasObserved (times_of old.times Request) observed → HasObserved (times_of new.times Request) (e.micros ∷ observed)
  pub names : new.site_names ≡ old.site_names
  pub sites : (history : List Added) → HasCounted old.sites history → HasCounted new.sites (site_added old.site_names e.site ++ history)

-- ---- the log

-- a byte of an IP address
abbrev pub is_address_byte : ℕ → Bool
is_address_byte b = is_ascii_hexdigit b || b == 46 || b == 58

-- a text that may be an IP address
abbrev pub is_address : List ℕ → Bool
is_address text = nat_lt 0 (length text) && (nat_le (length text) 45 && list_all is_address_byte text)

-- the text if it may be an address, or else the other one
abbrev pub address_or : List ℕ → List ℕ → List ℕ
address_or text peer = if is_address text then text else peer

-- the address of the client: behind a proxy the last one of X-Forwarded-For, if it may be one
abbrev pub client_of : Bool → List Field → List ℕ → List ℕ
client_of is_proxy fields peer =
    if is_proxy then address_or (forwarded_element fields) peer else peer

-- the value of the only field of a name, or nothing
abbrev pub sole_or_empty : List ℕ → List Field → List ℕ
sole_or_empty name fields = unwrap_or (only (values_named name fields)) []

-- the referrer with its query, or without it
abbrev pub shown_referrer : Bool → List ℕ → List ℕ
shown_referrer has_queries url = if has_queries then url else page_of url

-- the entry of a request with these fields, to which the site of this file responded
abbrev pub entry_of : LogPolicy → LoggedExchange → List ℕ → List Field → EntryValue
entry_of policy e site fields = record {
  client = client_of policy.is_proxy fields e.peer.now;
  seconds = e.seconds;
  line = shown_line policy.has_queries e.received.bytes.now;
  status = e.status;
  sent = e.body_sent;
  referrer = shown_referrer policy.has_queries (sole_or_empty (codes "referer") fields);
  user_agent = sole_or_empty (codes "user-agent") fields;
  millis = e.micros / 1000;
  site = site;
}

-- the line was appended, without a site; bytes that are not a head have no fields
abbrev pub IsLogged : LogPolicy → LoggedExchange → List ℕ → List ℕ → Type 0
IsLogged policy e old new =
    (HasNoHead e.received.bytes.now × (new ≡ old ++ line_text (entry_of policy e [] [])))
    ⊎ ((head : RequestHead) × BeginsWith e.received.bytes.now head × (new ≡ old ++ line_text (entry_of policy e [] head.fields)))

-- the log hides the request: it gets a report
abbrev pub is_hidden : LogPolicy → RequestHead → Bool
is_hidden policy head = gets_report policy.is_local policy.has_open_reports head

-- the line of a request with this head: none for one that the log hides
abbrev pub line_of : LogPolicy → LoggedExchange → List ℕ → RequestHead → List ℕ
line_of policy e site head = if is_hidden policy head then [] else line_text (entry_of policy e site head.fields)

-- the same with the site, but a report that the log hides has no line
abbrev pub IsRecorded : LogPolicy → LoggedExchange → List ℕ → List ℕ → List ℕ → Type 0
IsRecorded policy e site old new =
    (HasNoHead e.received.bytes.now × (new ≡ old ++ line_text (entry_of policy e site [])))
    ⊎ ((head : RequestHead) × BeginsWith e.received.bytes.now head × (new ≡ old ++ line_of policy e site head))
