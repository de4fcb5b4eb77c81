-- The response to a client that has the representation, from the response to one without a condition.
use Rattle.std.proofs.Common.{◌≡◌, ℕ, List, [], ◌∷◌, Bool, true, false, None, refl, sym, ap, ◌∙◌, inl, inr, codes, map}
use Rattle.std.specs.Prelude.{if◌then◌else◌, ◌==◌, ◌&&◌, ◌||◌, not}
use Rattle.std.specs.List.{filter}
use Rattle.std.specs.Option.{option_map_or, is_none}
use Rattle.std.specs.Str.{bytes_eq, str_eq_ignore_ascii_case, str_to_ascii_lowercase}
use Rattle.std.specs.Cmp.Lexicographic.{bytes_decides}
use Rattle.std.proofs.lemmas.Bool.{cases_Bool}
use Rattle.httparse.specs.Grammar.{RequestHead, Field, field_value}
use Rattle.feed_http_heads.specs.Fields.{values_named, only, has_any}
use Rattle.feed_http_heads.specs.Requests.{lacks_host, is_get, is_head}
use Rattle.feed_http_heads.specs.Targets.{origin_form}
use Rattle.node_request.specs.Conditions.{has_tag, names_tag}
use Rattle.node_request.specs.Representations.{accepted_representation, representation_of, preferred_in, format_of, has_hits}
use Rattle.node_request.specs.Routes.{query_in, route_of}
use Rattle.node_request.specs.declared.route.Route.{Route}
use Rattle.node_request.specs.declared.representation.Representation.TheVariants.{Text}
use Rattle.node_response.specs.Responses.{ResponseValue, with_tag, not_modified, is_good}
use Rattle.node_response.specs.Tags.{SiteValue}
use Rattle.node_resolver.specs.Answers.{Dated, Sited, sited}
use Rattle.node_resolver.specs.Responses.{target_query, path_of, has_coded_body, untagged_response, tagged_response}
use Rattle.node_resolver.specs.Validators.{is_tagged, tag_of, has_validator, validated_by, tag_to}
use Rattle.node_resolver.specs.TagLaws.{without_condition, conditional, NotModifiedHasTagOfGood}
use Rattle.node_resolver.proofs.Requests.{response_by, query_answer, read_reply, read_tagged, same_parts}
use Rattle.node_resolver.proofs.Tagged.{final_by, tag_asked}

abbrev condition_name : List ℕ
condition_name = codes "if-none-match"

abbrev stays : Field → Bool
stays field = not (str_eq_ignore_ascii_case field.name condition_name)

-- a field of another name stays
other_stays : (name : List ℕ) (field : Field) → str_eq_ignore_ascii_case name condition_name ≡ false → str_eq_ignore_ascii_case field.name name ≡ true
    → str_eq_ignore_ascii_case field.name condition_name ≡ false
other_stays name field apart same =
    ap (λ t. bytes_eq t (str_to_ascii_lowercase condition_name)) ((bytes_decides (str_to_ascii_lowercase field.name) (str_to_ascii_lowercase name)).0 same) ∙ apart

-- so the values of another name stay
values_stay : (name : List ℕ) → str_eq_ignore_ascii_case name condition_name ≡ false → (fields : List Field)
    → values_named name (filter stays fields) ≡ values_named name fields
values_stay name apart [] = refl
values_stay name apart (f ∷ fields) = elim (cases_Bool (str_eq_ignore_ascii_case f.name name)) [
  | inl e ↦ rw (other_stays name f apart e, e) (ap (λ t. field_value f ∷ t) (values_stay name apart fields))
  | inr e ↦ elim (cases_Bool (str_eq_ignore_ascii_case f.name condition_name)) [
    | inl k ↦ rw (k, e) (values_stay name apart fields)
    | inr k ↦ rw (k, e) (values_stay name apart fields)
  ]
]

field_goes : (f : Field) (fields : List Field) → str_eq_ignore_ascii_case f.name condition_name ≡ true → filter stays (f ∷ fields) ≡ filter stays fields
field_goes f fields k = ap (λ b. if not b then f ∷ filter stays fields else filter stays fields) k

field_stays : (f : Field) (fields : List Field) → str_eq_ignore_ascii_case f.name condition_name ≡ false → filter stays (f ∷ fields) ≡ f ∷ filter stays fields
field_stays f fields k = ap (λ b. if not b then f ∷ filter stays fields else filter stays fields) k

unnamed : (f : Field) (fields : List Field) → str_eq_ignore_ascii_case f.name condition_name ≡ false → values_named condition_name (f ∷ fields) ≡ values_named condition_name fields
unnamed f fields k =
    let others : List Field = filter (λ (field : Field). str_eq_ignore_ascii_case field.name condition_name) fields in
    ap (λ b. map field_value (if b then f ∷ others else others)) k

-- and no condition is left
none_left : (fields : List Field) → values_named condition_name (filter stays fields) ≡ []
none_left [] = refl
none_left (f ∷ fields) = elim (cases_Bool (str_eq_ignore_ascii_case f.name condition_name)) [
  | inl k ↦ ap (values_named condition_name) (field_goes f fields k) ∙ none_left fields
  | inr k ↦ ap (values_named condition_name) (field_stays f fields k) ∙ unnamed f (filter stays fields) k ∙ none_left fields
]

no_tag : (tag : List ℕ) (head : RequestHead) → has_tag tag (without_condition head) ≡ false
no_tag tag head = ap (λ vs. option_map_or (names_tag tag) (only vs) false) (none_left head.fields)

same_accepted : (head : RequestHead) → accepted_representation (without_condition head) ≡ accepted_representation head
same_accepted head = ap (λ vs. option_map_or preferred_in (only vs) Text) (values_stay (codes "accept") refl head.fields)

same_representation : (r : Route) (query : List ℕ) (head : RequestHead) → representation_of r query (without_condition head) ≡ representation_of r query head
same_representation r query head = ap (λ a. option_map_or (λ named. named) (format_of (has_hits r) query) a) (same_accepted head)

same_host : (head : RequestHead) → lacks_host (without_condition head) ≡ lacks_host head
same_host head = ap (λ vs. (head.minor == 1) && is_none (only vs)) (values_stay (codes "host") refl head.fields)

same_coded : (head : RequestHead) → has_coded_body (without_condition head) ≡ has_coded_body head
same_coded head = ap (λ (vs : List (List ℕ)). has_any vs) (values_stay (codes "transfer-encoding") refl head.fields)

same_target : (head : RequestHead) (actives : Sited) → query_answer (without_condition head) actives ≡ query_answer head actives
same_target head actives = same_parts (route_of head) (without_condition head) head (path_of head) (target_query head) actives
    (same_representation (route_of head) (target_query head) head) (same_accepted head)

same_plain : (head : RequestHead) (body : List ℕ) (actives : Sited) → (is_get head || is_head head) ≡ true
    → untagged_response (without_condition head) body actives ≡ untagged_response head body actives
same_plain head body actives read =
    read_reply (without_condition head) body actives read
    ∙ ap (λ l. response_by l false false (has_coded_body (without_condition head)) (query_answer (without_condition head) actives)) (same_host head)
    ∙ ap (λ c. response_by (lacks_host head) false false c (query_answer (without_condition head) actives)) (same_coded head)
    ∙ ap (λ t. response_by (lacks_host head) false false (has_coded_body head) t) (same_target head actives)
    ∙ sym (read_reply head body actives read)

and_left : (a b : Bool) → (a && b) ≡ true → a ≡ true
and_left true b e = refl
and_left false b e = absurd (cc)

and_right : (a b : Bool) → (a && b) ≡ true → b ≡ true
and_right true b e = e
and_right false b e = absurd (cc)

-- a response by whether the client has the tag
by_condition : (good has : Bool) (tag : List ℕ) (max_age : ℕ) (reply : ResponseValue) → is_good reply.status ≡ good
    → validated_by has tag max_age reply ≡ conditional has (validated_by false tag max_age reply)
by_condition true true tag max_age reply is =
    let brief : ResponseValue = not_modified tag max_age reply.representation in
    let whole : ResponseValue = with_tag tag max_age reply in
    ap (λ (b : Bool). if b then brief else reply) is
    ∙ sym (ap (λ (b : Bool). if b then brief else whole) is)
    ∙ sym (ap (conditional true) (ap (λ (b : Bool). if b then whole else reply) is))
by_condition good false tag max_age reply is = refl
by_condition false true tag max_age reply is =
    let brief : ResponseValue = not_modified tag max_age reply.representation in
    let whole : ResponseValue = with_tag tag max_age reply in
    ap (λ (b : Bool). if b then brief else reply) is
    ∙ sym (ap (λ (b : Bool). if b then not_modified reply.tag reply.max_age reply.representation else reply) is)
    ∙ sym (ap (conditional true) (ap (λ (b : Bool). if b then whole else reply) is))

-- the response to a GET or a HEAD of a target with a tag
read_validated : (site : SiteValue) (head : RequestHead) (body : List ℕ) (actives : Dated) → is_tagged head ≡ true
    → tagged_response site head body actives ≡ validated_by (has_tag (tag_asked site actives head) head) (tag_asked site actives head) site.max_age (untagged_response head body (sited site actives))
read_validated site head body actives tagged =
    read_tagged site head body actives (and_left (is_get head || is_head head) (has_validator (route_of head)) tagged)
    ∙ ap (λ v. final_by v None head (tag_asked site actives head) site.max_age (untagged_response head body (sited site actives)))
    (and_right (is_get head || is_head head) (has_validator (route_of head)) tagged)

pub tag_of_good : NotModifiedHasTagOfGood
tag_of_good site head body actives tagged =
    let tag : List ℕ = tag_asked site actives head in
    let reply : ResponseValue = untagged_response head body (sited site actives) in
    let plain : tagged_response site (without_condition head) body actives ≡ validated_by false tag site.max_age reply =
    read_validated site (without_condition head) body actives tagged
    ∙ ap (λ h. validated_by h (tag_asked site actives (without_condition head)) site.max_age (untagged_response (without_condition head) body (sited site actives))) (no_tag _ head)
    ∙ ap (λ t. validated_by false t site.max_age (untagged_response (without_condition head) body (sited site actives)))
    (ap (tag_of site actives) (same_representation (route_of head) (query_in (origin_form head.target)) head))
    ∙ ap (validated_by false tag site.max_age) (same_plain head body (sited site actives) (and_left (is_get head || is_head head) (has_validator (route_of head)) tagged)) in
    let stated : tag_to site actives head ≡ tag = ap (λ (b : Bool). if b then tag else []) tagged in
    read_validated site head body actives tagged
    ∙ by_condition (is_good reply.status) (has_tag tag head) tag site.max_age reply refl
    ∙ ap (conditional (has_tag tag head)) (sym plain)
    ∙ ap (λ (t : List ℕ). conditional (has_tag t head) (tagged_response site (without_condition head) body actives)) (sym stated)
