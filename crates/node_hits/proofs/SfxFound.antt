-- A reader finds the address, the type and the public name of each target in a reply.
use Rattle.std.proofs.Common.{◌≡◌, ℕ, Bool, true, false, List, [], ◌∷◌, ◌++◌, Some, None, refl, sym, ap, ◌∙◌, append_assoc, codes}
use Rattle.std.specs.Prelude.{◌-◌, ◌==◌, Option, if◌then◌else◌, length, map, take}
use Rattle.feed_answer.specs.Pairs.{is_empty}
use Rattle.std.specs.Fmt.{decimal}
use Rattle.std.specs.List.{flat_map}
use Rattle.std.proofs.lemmas.List.{append-nil}
use Rattle.feed_kbart.specs.RowValue.{RowValue}
use Rattle.feed_xml.specs.Characters.{allowed, bytes_marks}
use Rattle.feed_xml.specs.Elements.{leaf, number_leaf}
use Rattle.feed_xml.specs.Marks.{Mark, closed, element}
use Rattle.feed_xml.specs.Reading.{leaf_texts, leaf_texts_in}
use Rattle.feed_xml.proofs.Found.{IsOther, collected, found_leaf, skips_bytes, skips_element, skips_leaf}
use Rattle.node_hits.specs.EmbargoWords.{embargo_words}
use Rattle.node_hits.specs.Sfx.{ServiceValue, TargetValue, coverage_marks, coverage_words, embargo_marks, names_marks, place_marks}
use Rattle.node_hits.specs.Sfx.{more_marks, named_marks, others_marks, package_marks, reply_marks, request_marks, stated_marks, statement_marks, target_marks, words_marks}
use Rattle.node_hits.specs.SfxLaws.{ReplyHasTargets, ReplyNamesMore, if_any, texts_of}
use Rattle.node_hits.specs.Tallies.{named_limit}
use Rattle.node_hits.specs.declared.sfx_names.TheConstants.{MORE_IN, PACKAGE, OTHERS}
use Rattle.node_hits.specs.declared.sfx_names.TheConstants.{CTX_OBJ_SET, CTX_OBJ, CTX_OBJ_ATTRIBUTES, CTX_OBJ_TARGETS, TARGET}
use Rattle.node_hits.specs.declared.sfx_names.TheConstants.{TARGET_NAME, TARGET_PUBLIC_NAME, TARGET_SERVICE_ID, SERVICE_TYPE, TARGET_URL, PARSER, DISPLAYER, IS_RELATED, NO, NOTE}
use Rattle.node_hits.specs.declared.sfx_names.TheConstants.{COVERAGE, COVERAGE_TEXT, THRESHOLD_TEXT, COVERAGE_STATEMENT, EMBARGO_TEXT, EMBARGO_STATEMENT}

-- marks have these texts in the elements with a name, wherever they are
abbrev Finds : List ℕ → List (List ℕ) → List Mark → Type 0
Finds name texts marks = (rest : List Mark) → leaf_texts_in name (marks ++ rest) None ≡ texts ++ leaf_texts_in name rest None

finds_append : (name : List ℕ) (ts us : List (List ℕ)) (xs ys : List Mark) → Finds name ts xs → Finds name us ys → Finds name (ts ++ us) (xs ++ ys)
finds_append name ts us xs ys one two rest =
    ap (λ t. leaf_texts_in name t None) (append_assoc xs ys rest) ∙ one (ys ++ rest) ∙ ap (λ t. ts ++ t) (two rest)
    ∙ sym (append_assoc ts us (leaf_texts_in name rest None))

finds_element : (name : List ℕ) (texts : List (List ℕ)) (tag end : List ℕ) (content : List Mark) → IsOther name tag → Finds name texts content
    → Finds name texts (element tag end content)
finds_element name texts tag end content other finds rest =
    ap (leaf_texts_in name ((content ++ closed end ∷ []) ++ rest)) other
    ∙ ap (λ t. leaf_texts_in name t None) (append_assoc content (closed end ∷ []) rest) ∙ finds (closed end ∷ rest)

skips_number : (name other : List ℕ) (n : ℕ) → IsOther name other → Finds name [] (number_leaf other n)
skips_number name other n is = skips_element name other other (bytes_marks (decimal n)) is (skips_bytes name (decimal n))

-- ---- a coverage has none of the names

record IsApart (name : List ℕ) : Type 0 where
  coverage : IsOther name COVERAGE.now
  text : IsOther name COVERAGE_TEXT.now
  threshold : IsOther name THRESHOLD_TEXT.now
  statement : IsOther name COVERAGE_STATEMENT.now
  embargo : IsOther name EMBARGO_TEXT.now
  embargo_statement : IsOther name EMBARGO_STATEMENT.now

skips_unless : (name : List ℕ) (is : Bool) (marks : List Mark) → Finds name [] marks → Finds name [] (if is then [] else marks)
skips_unless name true marks skips rest = refl
skips_unless name false marks skips rest = skips rest

skips_embargo : (name words : List ℕ) → IsApart name → Finds name [] (embargo_marks words)
skips_embargo name words is =
    skips_unless name (is_empty words) (element EMBARGO_TEXT.now EMBARGO_TEXT.now (leaf EMBARGO_STATEMENT.now words))
    (finds_element name [] EMBARGO_TEXT.now EMBARGO_TEXT.now (leaf EMBARGO_STATEMENT.now words) is.embargo
    (skips_leaf name EMBARGO_STATEMENT.now words is.embargo_statement))

skips_stated : (name covered embargo : List ℕ) → IsApart name → Finds name [] (stated_marks covered embargo)
unfolding stated_marks words_marks
skips_stated name covered embargo is =
    finds_element name [] COVERAGE.now COVERAGE.now (words_marks covered embargo) is.coverage
    (finds_element name [] COVERAGE_TEXT.now COVERAGE_TEXT.now (statement_marks covered embargo) is.text
    (finds_append name [] [] (element THRESHOLD_TEXT.now THRESHOLD_TEXT.now (leaf COVERAGE_STATEMENT.now covered)) (embargo_marks embargo)
    (finds_element name [] THRESHOLD_TEXT.now THRESHOLD_TEXT.now (leaf COVERAGE_STATEMENT.now covered) is.threshold
    (skips_leaf name COVERAGE_STATEMENT.now covered is.statement))
    (skips_embargo name embargo is)))

skips_coverage : (name : List ℕ) (coverage : Option RowValue) → IsApart name → Finds name [] (coverage_marks coverage)
skips_coverage name None is rest = refl
skips_coverage name (Some row) is rest = skips_stated name (coverage_words row) (embargo_words row.embargo) is rest

-- ---- the parts of a service

-- the names of a service, with what each of them gives
names_found : (name : List ℕ) (xs ys zs : List (List ℕ)) (service : ServiceValue) → Finds name xs (leaf TARGET_NAME.now service.name)
    → Finds name ys (leaf TARGET_PUBLIC_NAME.now service.public_name) → IsOther name TARGET_SERVICE_ID.now → Finds name zs (leaf SERVICE_TYPE.now service.service_type)
    → Finds name (xs ++ (ys ++ zs)) (names_marks service)
unfolding names_marks
names_found name xs ys zs service one two three four =
    finds_append name xs (ys ++ zs) (leaf TARGET_NAME.now service.name)
    (leaf TARGET_PUBLIC_NAME.now service.public_name ++ (number_leaf TARGET_SERVICE_ID.now service.number ++ leaf SERVICE_TYPE.now service.service_type)) one
    (finds_append name ys zs (leaf TARGET_PUBLIC_NAME.now service.public_name)
    (number_leaf TARGET_SERVICE_ID.now service.number ++ leaf SERVICE_TYPE.now service.service_type) two
    (finds_append name [] zs (number_leaf TARGET_SERVICE_ID.now service.number) (leaf SERVICE_TYPE.now service.service_type)
    (skips_number name TARGET_SERVICE_ID.now service.number three) four))

-- the address, with what it gives; the name is that of nothing else there
place_found : (name : List ℕ) (us : List (List ℕ)) (service : ServiceValue) → Finds name us (leaf TARGET_URL.now service.url) → IsOther name PARSER.now
    → IsOther name IS_RELATED.now → IsOther name DISPLAYER.now → IsOther name NOTE.now → Finds name (us ++ []) (place_marks service)
unfolding place_marks
place_found name us service url parser related displayer note =
    finds_append name us [] (leaf TARGET_URL.now service.url) (leaf PARSER.now [] ++ (leaf IS_RELATED.now NO.now ++ (leaf DISPLAYER.now [] ++ leaf NOTE.now service.note)))
    url
    (finds_append name [] [] (leaf PARSER.now []) (leaf IS_RELATED.now NO.now ++ (leaf DISPLAYER.now [] ++ leaf NOTE.now service.note)) (skips_leaf name PARSER.now [] parser)
    (finds_append name [] [] (leaf IS_RELATED.now NO.now) (leaf DISPLAYER.now [] ++ leaf NOTE.now service.note) (skips_leaf name IS_RELATED.now NO.now related)
    (finds_append name [] [] (leaf DISPLAYER.now []) (leaf NOTE.now service.note) (skips_leaf name DISPLAYER.now [] displayer) (skips_leaf name NOTE.now service.note note))))

target_found : (name : List ℕ) (ts us : List (List ℕ)) (target : TargetValue) → IsOther name TARGET.now → IsApart name → Finds name ts (names_marks target.service)
    → Finds name us (place_marks target.service) → Finds name (ts ++ (us ++ [])) (target_marks target)
unfolding target_marks
target_found name ts us target other apart one two =
    finds_element name (ts ++ (us ++ [])) TARGET.now TARGET.now (names_marks target.service ++ (place_marks target.service ++ coverage_marks target.coverage)) other
    (finds_append name ts (us ++ []) (names_marks target.service) (place_marks target.service ++ coverage_marks target.coverage) one
    (finds_append name us [] (place_marks target.service) (coverage_marks target.coverage) two (skips_coverage name target.coverage apart)))

-- ---- all targets

all_found : (name : List ℕ) (text : TargetValue → List ℕ) → ((target : TargetValue) → Finds name (allowed (text target) ∷ []) (target_marks target))
    → (targets : List TargetValue) → Finds name (texts_of text targets) (flat_map target_marks targets)
all_found name text each [] rest = refl
all_found name text each (target ∷ targets) rest =
    finds_append name (allowed (text target) ∷ []) (texts_of text targets) (target_marks target) (flat_map target_marks targets) (each target)
    (all_found name text each targets) rest

-- the elements around the targets
record IsInside (name : List ℕ) : Type 0 where
  set : IsOther name CTX_OBJ_SET.now
  request : IsOther name CTX_OBJ.now
  attributes : IsOther name CTX_OBJ_ATTRIBUTES.now
  targets : IsOther name CTX_OBJ_TARGETS.now

-- what the targets and the packages that may have more give
reply_found : (name : List ℕ) (ts ms : List (List ℕ)) → IsInside name → (targets : List TargetValue) (more : List (List ℕ))
    → Finds name ts (flat_map target_marks targets) → Finds name ms (more_marks more) → leaf_texts name (reply_marks targets more) ≡ ts ++ ms
reply_found name ts ms is targets more one two =
    let list : List Mark = element CTX_OBJ_TARGETS.now CTX_OBJ_TARGETS.now (flat_map target_marks targets) in
    ap (leaf_texts name) (sym (append-nil (reply_marks targets more)))
    ∙ finds_element name (ts ++ ms) CTX_OBJ_SET.now CTX_OBJ_SET.now (element CTX_OBJ.now CTX_OBJ.now (request_marks targets more)) is.set
    (finds_element name (ts ++ ms) CTX_OBJ.now CTX_OBJ.now (request_marks targets more) is.request
    (finds_append name [] (ts ++ ms) (leaf CTX_OBJ_ATTRIBUTES.now []) (list ++ more_marks more) (skips_leaf name CTX_OBJ_ATTRIBUTES.now [] is.attributes)
    (finds_append name ts ms list (more_marks more)
    (finds_element name ts CTX_OBJ_TARGETS.now CTX_OBJ_TARGETS.now (flat_map target_marks targets) is.targets one) two)))
    []
    ∙ append-nil (ts ++ ms)

-- ---- the packages that may have more

more_found : (name : List ℕ) (ps os : List (List ℕ)) (first : List ℕ) (rest : List (List ℕ)) → IsOther name MORE_IN.now
    → Finds name ps (flat_map package_marks (take named_limit (first ∷ rest))) → Finds name os (others_marks (length (first ∷ rest) - named_limit))
    → Finds name (ps ++ os) (more_marks (first ∷ rest))
unfolding more_marks
more_found name ps os first rest other one two =
    finds_element name (ps ++ os) MORE_IN.now MORE_IN.now (named_marks (first ∷ rest)) other
    (finds_append name ps os (flat_map package_marks (take named_limit (first ∷ rest))) (others_marks (length (first ∷ rest) - named_limit)) one two)

nothing_found : (name : List ℕ) → Finds name [] (more_marks [])
unfolding more_marks
nothing_found name rest = refl

skips_packages : (name : List ℕ) (names : List (List ℕ)) → IsOther name PACKAGE.now → Finds name [] (flat_map package_marks names)
skips_packages name [] other rest = refl
skips_packages name (n ∷ names) other rest =
    finds_append name [] [] (package_marks n) (flat_map package_marks names) (skips_leaf name PACKAGE.now n other) (skips_packages name names other) rest

skips_others : (name : List ℕ) (count : ℕ) → IsOther name OTHERS.now → Finds name [] (others_marks count)
skips_others name count other = skips_unless name (count == 0) (number_leaf OTHERS.now count) (skips_number name OTHERS.now count other)

skips_more : (name : List ℕ) (more : List (List ℕ)) → IsOther name MORE_IN.now → IsOther name PACKAGE.now → IsOther name OTHERS.now → Finds name [] (more_marks more)
skips_more name [] other titles others = nothing_found name
skips_more name (first ∷ rest) other titles others =
    more_found name [] [] first rest other (skips_packages name (take named_limit (first ∷ rest)) titles)
    (skips_others name (length (first ∷ rest) - named_limit) others)

packages_found : (names : List (List ℕ)) → Finds (codes "package") (map allowed names) (flat_map package_marks names)
packages_found [] rest = refl
packages_found (n ∷ names) rest =
    finds_append (codes "package") (allowed n ∷ []) (map allowed names) (package_marks n) (flat_map package_marks names)
    (λ more. found_leaf (codes "package") n more refl) (packages_found names) rest

others_found : (count : ℕ) (is : Bool) → Finds (codes "others") (if is then [] else decimal count ∷ []) (if is then [] else number_leaf OTHERS.now count)
others_found count true rest = refl
others_found count false rest = collected (codes "others") (codes "others") [] (decimal count) rest

packages_named : (more : List (List ℕ)) → Finds (codes "package") (map allowed (take 5 more)) (more_marks more)
packages_named [] marks = nothing_found (codes "package") marks
packages_named (first ∷ rest) marks =
    more_found (codes "package") (map allowed (take 5 (first ∷ rest))) [] first rest refl (packages_found (take named_limit (first ∷ rest)))
    (skips_others (codes "package") (length (first ∷ rest) - named_limit) refl) marks
    ∙ ap (λ ts. ts ++ leaf_texts_in (codes "package") marks None) (append-nil (map allowed (take 5 (first ∷ rest))))

others_counted : (more : List (List ℕ)) → Finds (codes "others") (if_any (length more - 5)) (more_marks more)
others_counted [] = nothing_found (codes "others")
others_counted (first ∷ rest) =
    more_found (codes "others") [] (if_any (length (first ∷ rest) - 5)) first rest refl (skips_packages (codes "others") (take named_limit (first ∷ rest)) refl)
    (others_found (length (first ∷ rest) - 5) ((length (first ∷ rest) - 5) == 0))

-- ---- no target has such a name

target_skipped : (name : List ℕ) (target : TargetValue) → IsOther name TARGET.now → IsApart name → IsOther name TARGET_NAME.now → IsOther name TARGET_PUBLIC_NAME.now
    → IsOther name TARGET_SERVICE_ID.now → IsOther name SERVICE_TYPE.now → IsOther name TARGET_URL.now → IsOther name PARSER.now → IsOther name IS_RELATED.now
    → IsOther name DISPLAYER.now → IsOther name NOTE.now → Finds name [] (target_marks target)
target_skipped name target other apart title shown number kind url parser related displayer note =
    let service : ServiceValue = target.service in
    target_found name [] [] target other apart
    (names_found name [] [] [] service (skips_leaf name TARGET_NAME.now service.name title) (skips_leaf name TARGET_PUBLIC_NAME.now service.public_name shown) number
    (skips_leaf name SERVICE_TYPE.now service.service_type kind))
    (place_found name [] service (skips_leaf name TARGET_URL.now service.url url) parser related displayer note)

targets_skipped : (name : List ℕ) → ((target : TargetValue) → Finds name [] (target_marks target)) → (targets : List TargetValue) → Finds name [] (flat_map target_marks targets)
targets_skipped name each [] rest = refl
targets_skipped name each (target ∷ targets) rest =
    finds_append name [] [] (target_marks target) (flat_map target_marks targets) (each target) (targets_skipped name each targets) rest

-- ---- the three names

url_apart : IsApart (codes "target_url")
url_apart = record { coverage = refl; text = refl; threshold = refl; statement = refl; embargo = refl; embargo_statement = refl }

type_apart : IsApart (codes "service_type")
type_apart = record { coverage = refl; text = refl; threshold = refl; statement = refl; embargo = refl; embargo_statement = refl }

name_apart : IsApart (codes "target_public_name")
name_apart = record { coverage = refl; text = refl; threshold = refl; statement = refl; embargo = refl; embargo_statement = refl }

url_found : (target : TargetValue) → Finds (codes "target_url") (allowed target.service.url ∷ []) (target_marks target)
url_found target =
    let name = codes "target_url" in
    let service : ServiceValue = target.service in
    target_found name [] (allowed service.url ∷ []) target refl url_apart
    (names_found name [] [] [] service (skips_leaf name TARGET_NAME.now service.name refl) (skips_leaf name TARGET_PUBLIC_NAME.now service.public_name refl) refl
    (skips_leaf name SERVICE_TYPE.now service.service_type refl))
    (place_found name (allowed service.url ∷ []) service (λ rest. found_leaf name service.url rest refl) refl refl refl refl)

type_found : (target : TargetValue) → Finds (codes "service_type") (allowed target.service.service_type ∷ []) (target_marks target)
type_found target =
    let name = codes "service_type" in
    let service : ServiceValue = target.service in
    target_found name (allowed service.service_type ∷ []) [] target refl type_apart
    (names_found name [] [] (allowed service.service_type ∷ []) service (skips_leaf name TARGET_NAME.now service.name refl)
    (skips_leaf name TARGET_PUBLIC_NAME.now service.public_name refl) refl (λ rest. found_leaf name service.service_type rest refl))
    (place_found name [] service (skips_leaf name TARGET_URL.now service.url refl) refl refl refl refl)

name_found : (target : TargetValue) → Finds (codes "target_public_name") (allowed target.service.public_name ∷ []) (target_marks target)
name_found target =
    let name = codes "target_public_name" in
    let service : ServiceValue = target.service in
    target_found name (allowed service.public_name ∷ []) [] target refl name_apart
    (names_found name [] (allowed service.public_name ∷ []) [] service (skips_leaf name TARGET_NAME.now service.name refl)
    (λ rest. found_leaf name service.public_name rest refl) refl (skips_leaf name SERVICE_TYPE.now service.service_type refl))
    (place_found name [] service (skips_leaf name TARGET_URL.now service.url refl) refl refl refl refl)

inside_url : IsInside (codes "target_url")
inside_url = record { set = refl; request = refl; attributes = refl; targets = refl }

inside_type : IsInside (codes "service_type")
inside_type = record { set = refl; request = refl; attributes = refl; targets = refl }

inside_name : IsInside (codes "target_public_name")
inside_name = record { set = refl; request = refl; attributes = refl; targets = refl }

-- the texts of the targets are all
texts_found : (name : List ℕ) (text : TargetValue → List ℕ) → IsInside name → ((target : TargetValue) → Finds name (allowed (text target) ∷ []) (target_marks target))
    → (targets : List TargetValue) (more : List (List ℕ)) → Finds name [] (more_marks more) → leaf_texts name (reply_marks targets more) ≡ texts_of text targets
texts_found name text is each targets more skips =
    reply_found name (texts_of text targets) [] is targets more (all_found name text each targets) skips ∙ append-nil (texts_of text targets)

pub targets_found : ReplyHasTargets
targets_found targets more = record {
  urls = texts_found (codes "target_url") (λ target. target.service.url) inside_url url_found targets more (skips_more (codes "target_url") more refl refl refl);
  types = texts_found (codes "service_type") (λ target. target.service.service_type) inside_type type_found targets more (skips_more (codes "service_type") more refl refl refl);
  names = texts_found (codes "target_public_name") (λ target. target.service.public_name) inside_name name_found targets more
      (skips_more (codes "target_public_name") more refl refl refl);
}

package_apart : IsApart (codes "package")
package_apart = record { coverage = refl; text = refl; threshold = refl; statement = refl; embargo = refl; embargo_statement = refl }

others_apart : IsApart (codes "others")
others_apart = record { coverage = refl; text = refl; threshold = refl; statement = refl; embargo = refl; embargo_statement = refl }

inside_package : IsInside (codes "package")
inside_package = record { set = refl; request = refl; attributes = refl; targets = refl }

inside_others : IsInside (codes "others")
inside_others = record { set = refl; request = refl; attributes = refl; targets = refl }

no_package : (target : TargetValue) → Finds (codes "package") [] (target_marks target)
no_package target = target_skipped (codes "package") target refl package_apart refl refl refl refl refl refl refl refl refl

no_others : (target : TargetValue) → Finds (codes "others") [] (target_marks target)
no_others target = target_skipped (codes "others") target refl others_apart refl refl refl refl refl refl refl refl refl

pub more_named : ReplyNamesMore
more_named targets more = record {
  packages = reply_found (codes "package") [] (map allowed (take 5 more)) inside_package targets more (targets_skipped (codes "package") no_package targets)
      (packages_named more);
  others = reply_found (codes "others") [] (if_any (length more - 5)) inside_others targets more (targets_skipped (codes "others") no_others targets)
      (others_counted more);
}
