-- The response with its tag, from the response that disregards the tag.
use Rattle.std.proofs.Common.{◌≡◌, ◌<◌, ◌^◌, lit<, ℕ, List, [], Bool, true, false, Option, Some, None, refl, sym, ap, ◌∙◌, subst}
use Rattle.std.specs.Prelude.{if◌then◌else◌, ◌||◌, codes}
use Rattle.std.specs.Option.{option_map_or}
use Rattle.std.specs.Str.{bytes_eq}
use Rattle.std.proofs.lemmas.List.Elements.{All-nil}
use Rattle.httparse.specs.Grammar.{RequestHead, AllPass, is_uri_byte}
use Rattle.feed_http_heads.specs.Targets.{origin_form}
use Rattle.feed_http_heads.specs.Requests.{lacks_host}
use Rattle.node_request.specs.Conditions.{has_tag}
use Rattle.node_request.specs.Representations.{representation_of}
use Rattle.node_request.specs.Routes.{query_in, route_of}
use Rattle.node_request.specs.declared.representation.Representation.{Representation}
use Rattle.node_request.specs.declared.representation.Representation.TheVariants.{Text}
use Rattle.node_response.specs.Responses.{ResponseValue, response_with, with_tag, not_modified, is_good}
use Rattle.node_response.specs.Messages.{IsLocation}
use Rattle.node_response.specs.declared.status.Status.{Status}
use Rattle.node_response.specs.Tags.{SiteValue}
use Rattle.node_response.proofs.Visible.{tag_visible}
use Rattle.node_resolver.specs.Answers.{Dated, Sited, sited}
use Rattle.node_resolver.specs.Answered.{IsGoodIn, IsAnsweredTo}
use Rattle.node_resolver.specs.Responses.{untagged_response, tagged_response}
use Rattle.node_resolver.specs.Validators.{is_tagged, tag_of, validated_by, validated, preflight_status}
use Rattle.node_resolver.proofs.Locations.{IsLocated, nowhere, response_located}

-- the tag of what a request asks for, whether it has one or not
abbrev pub tag_asked : SiteValue → Dated → RequestHead → List ℕ
tag_asked site actives head = tag_of site actives (representation_of (route_of head) (query_in (origin_form head.target)) head)

-- a response by whether its target has a tag, and by the status of a preflight
abbrev pub final_by : Bool → Option Status → RequestHead → List ℕ → ℕ → ResponseValue → ResponseValue
final_by tagged preflight head tag max_age reply = option_map_or (λ code. response_with code Text [])
    preflight (if tagged then validated_by (has_tag (if tagged then tag else []) head) (if tagged then tag else []) max_age reply else reply)

pub tagged_cases : (site : SiteValue) (head : RequestHead) (body : List ℕ) (actives : Dated)
    → tagged_response site head body actives ≡ final_by (is_tagged head) (preflight_status head) head (tag_asked site actives head) site.max_age (untagged_response head body (sited site actives))
tagged_cases site head body actives = refl

or_any : (b : Bool) → (b || true) ≡ true
or_any true = refl
or_any false = refl

-- only an OPTIONS is a preflight
pub no_preflight : (head : RequestHead) → bytes_eq head.method (codes "OPTIONS") ≡ false → preflight_status head ≡ None
no_preflight head other = rw (other, or_any (lacks_host head)) refl

-- ---- what can be stated

-- a response with a location and a tag that can be stated
abbrev pub IsStatable : ResponseValue → Type 0
IsStatable reply = IsLocation reply.location × AllPass is_uri_byte reply.tag

untagged : AllPass is_uri_byte []
untagged = All-nil (λ b. is_uri_byte b ≡ true)

validated_statable : (good has : Bool) (tag : List ℕ) (max_age : ℕ) (reply : ResponseValue) → IsLocated reply → AllPass is_uri_byte tag
    → IsStatable (if good then (if has then not_modified tag max_age reply.representation else with_tag tag max_age reply) else reply)
validated_statable true true tag max_age reply located passes = (nowhere, passes)
validated_statable true false tag max_age reply located passes = (located.0, passes)
validated_statable false has tag max_age reply located passes = (located.0, subst (λ t. AllPass is_uri_byte t) (sym located.1) untagged)

final_statable : (tagged : Bool) (preflight : Option Status) (head : RequestHead) (tag : List ℕ) (max_age : ℕ) (reply : ResponseValue) → IsLocated reply → AllPass is_uri_byte tag
    → IsStatable (final_by tagged preflight head tag max_age reply)
final_statable tagged (Some code) head tag max_age reply located passes = (nowhere, untagged)
final_statable true None head tag max_age reply located passes = validated_statable (is_good reply.status) (has_tag tag head) tag max_age reply located passes
final_statable false None head tag max_age reply located passes = (located.0, subst (λ t. AllPass is_uri_byte t) (sym located.1) untagged)

pub tagged_statable : (site : SiteValue) (head : RequestHead) (body : List ℕ) (actives : Dated) → IsStatable (tagged_response site head body actives)
tagged_statable site head body actives = final_statable (is_tagged head) (preflight_status head) head (tag_asked site actives head) site.max_age (untagged_response head body (sited site actives))
    (response_located head body (sited site actives)) (tag_visible _)

-- and how long a cache may keep it
abbrev IsYoung : ResponseValue → Type 0
IsYoung reply = reply.max_age < 2 ^ 64

plain_young : (reply : ResponseValue) → IsLocated reply → IsYoung reply
plain_young reply located = subst (λ (n : ℕ). n < 2 ^ 64) (sym located.2) (lit< tt)

validated_young : (good has : Bool) (tag : List ℕ) (max_age : ℕ) (reply : ResponseValue) → IsLocated reply → max_age < 2 ^ 64
    → IsYoung (if good then (if has then not_modified tag max_age reply.representation else with_tag tag max_age reply) else reply)
validated_young true true tag max_age reply located young = young
validated_young true false tag max_age reply located young = young
validated_young false has tag max_age reply located young = plain_young reply located

final_young : (tagged : Bool) (preflight : Option Status) (head : RequestHead) (tag : List ℕ) (max_age : ℕ) (reply : ResponseValue) → IsLocated reply → max_age < 2 ^ 64
    → IsYoung (final_by tagged preflight head tag max_age reply)
final_young tagged (Some code) head tag max_age reply located young = lit< tt
final_young true None head tag max_age reply located young = validated_young (is_good reply.status) (has_tag tag head) tag max_age reply located young
final_young false None head tag max_age reply located young = plain_young reply located

pub tagged_young : (site : SiteValue) (head : RequestHead) (body : List ℕ) (actives : Dated) → site.max_age < 2 ^ 64 → IsYoung (tagged_response site head body actives)
tagged_young site head body actives young = final_young (is_tagged head) (preflight_status head) head (tag_asked site actives head) site.max_age (untagged_response head body (sited site actives))
    (response_located head body (sited site actives)) young

-- ---- a client that has the tag

-- where the response would be a 200
pub known_response : (tagged has : Bool) (tag : List ℕ) (max_age : ℕ) (representation : Representation) (reply : ResponseValue) → tagged ≡ true → has ≡ true → IsGoodIn representation reply
    → not_modified tag max_age representation ≡ (if tagged then validated_by has tag max_age reply else reply)
known_response true true tag max_age representation reply is names good =
    ap (not_modified tag max_age) (sym good.1)
    ∙ sym (ap (λ (code : Status). if is_good code then not_modified tag max_age reply.representation else reply) good.0)
known_response true false tag max_age representation reply is names good = absurd (cc)
known_response false has tag max_age representation reply is names good = absurd (cc)

-- the same for a request with a tag, from what the code looks at
pub known_validated : (head : RequestHead) (tag : List ℕ) (max_age : ℕ) (body : List ℕ) (actives : Sited) (reply : ResponseValue) (representation : Representation) (is has : Bool)
    → is ≡ true → is ≡ is_tagged head → has ≡ true → has ≡ has_tag tag head → representation ≡ representation_of (route_of head) (query_in (origin_form head.target)) head
    → (is_tagged head ≡ true → IsAnsweredTo head actives) → reply ≡ not_modified tag max_age representation
    → reply ≡ validated head tag max_age (untagged_response head body actives)
known_validated head tag max_age body actives reply representation is has tags tagged holds named wants answered given =
    let true_tag : is_tagged head ≡ true = sym tagged ∙ tags in
    given ∙ ap (not_modified tag max_age) wants
    ∙ known_response (is_tagged head) (has_tag tag head) tag max_age (representation_of (route_of head) (query_in (origin_form head.target)) head)
    (untagged_response head body actives) true_tag (sym named ∙ holds)
    (answered true_tag body)
