-- The tags of a reply of SFX are proper and balanced.
use Rattle.std.proofs.Common.{ℕ, Bool, true, false, List, [], ◌∷◌, ◌++◌, Some, None, refl}
use Rattle.std.specs.Prelude.{◌-◌, ◌==◌, Option, if◌then◌else◌, length, take}
use Rattle.feed_answer.specs.Pairs.{is_empty}
use Rattle.std.specs.List.{flat_map}
use Rattle.feed_kbart.specs.RowValue.{RowValue}
use Rattle.feed_xml.specs.Elements.{leaf, number_leaf}
use Rattle.feed_xml.specs.Marks.{Mark, element}
use Rattle.feed_xml.proofs.Structure.{Good, good_append, good_balanced, good_element, good_leaf, good_nothing, good_number, good_read}
use Rattle.node_hits.specs.EmbargoWords.{embargo_words}
use Rattle.node_hits.specs.Sfx.{ServiceValue, TargetValue, coverage_marks, coverage_words, embargo_marks, names_marks, place_marks}
use Rattle.node_hits.specs.Sfx.{more_marks, named_marks, others_marks, package_marks, reply_marks, request_marks, stated_marks, statement_marks, target_marks, words_marks}
use Rattle.node_hits.specs.SfxLaws.{SfxIsBalanced, SfxReadsBack}
use Rattle.node_hits.specs.Tallies.{named_limit}
use Rattle.node_hits.specs.declared.sfx_names.TheConstants.{MORE_IN, PACKAGE, OTHERS}
use Rattle.node_hits.specs.declared.sfx_names.TheConstants.{CTX_OBJ_SET, CTX_OBJ, CTX_OBJ_ATTRIBUTES, CTX_OBJ_TARGETS, TARGET}
use Rattle.node_hits.specs.declared.sfx_names.TheConstants.{TARGET_NAME, TARGET_PUBLIC_NAME, TARGET_SERVICE_ID, SERVICE_TYPE, TARGET_URL, PARSER, DISPLAYER, IS_RELATED, NO, NOTE}
use Rattle.node_hits.specs.declared.sfx_names.TheConstants.{COVERAGE, COVERAGE_TEXT, THRESHOLD_TEXT, COVERAGE_STATEMENT, EMBARGO_TEXT, EMBARGO_STATEMENT}

good_names : (service : ServiceValue) → Good (names_marks service)
unfolding names_marks
good_names service =
    good_append (leaf TARGET_NAME.now service.name)
    (leaf TARGET_PUBLIC_NAME.now service.public_name ++ (number_leaf TARGET_SERVICE_ID.now service.number ++ leaf SERVICE_TYPE.now service.service_type))
    (good_leaf TARGET_NAME.now service.name refl)
    (good_append (leaf TARGET_PUBLIC_NAME.now service.public_name) (number_leaf TARGET_SERVICE_ID.now service.number ++ leaf SERVICE_TYPE.now service.service_type)
    (good_leaf TARGET_PUBLIC_NAME.now service.public_name refl)
    (good_append (number_leaf TARGET_SERVICE_ID.now service.number) (leaf SERVICE_TYPE.now service.service_type)
    (good_number TARGET_SERVICE_ID.now service.number refl) (good_leaf SERVICE_TYPE.now service.service_type refl)))

good_place : (service : ServiceValue) → Good (place_marks service)
unfolding place_marks
good_place service =
    good_append (leaf TARGET_URL.now service.url) (leaf PARSER.now [] ++ (leaf IS_RELATED.now NO.now ++ (leaf DISPLAYER.now [] ++ leaf NOTE.now service.note)))
    (good_leaf TARGET_URL.now service.url refl)
    (good_append (leaf PARSER.now []) (leaf IS_RELATED.now NO.now ++ (leaf DISPLAYER.now [] ++ leaf NOTE.now service.note)) (good_leaf PARSER.now [] refl)
    (good_append (leaf IS_RELATED.now NO.now) (leaf DISPLAYER.now [] ++ leaf NOTE.now service.note) (good_leaf IS_RELATED.now NO.now refl)
    (good_append (leaf DISPLAYER.now []) (leaf NOTE.now service.note) (good_leaf DISPLAYER.now [] refl) (good_leaf NOTE.now service.note refl))))

good_unless : (is : Bool) (marks : List Mark) → Good marks → Good (if is then [] else marks)
good_unless true marks good = good_nothing
good_unless false marks good = good

good_embargo : (words : List ℕ) → Good (embargo_marks words)
good_embargo words =
    good_unless (is_empty words) (element EMBARGO_TEXT.now EMBARGO_TEXT.now (leaf EMBARGO_STATEMENT.now words))
    (good_element EMBARGO_TEXT.now EMBARGO_TEXT.now (leaf EMBARGO_STATEMENT.now words) refl (good_leaf EMBARGO_STATEMENT.now words refl))

good_statements : (covered embargo : List ℕ) → Good (statement_marks covered embargo)
good_statements covered embargo =
    good_append (element THRESHOLD_TEXT.now THRESHOLD_TEXT.now (leaf COVERAGE_STATEMENT.now covered)) (embargo_marks embargo)
    (good_element THRESHOLD_TEXT.now THRESHOLD_TEXT.now (leaf COVERAGE_STATEMENT.now covered) refl (good_leaf COVERAGE_STATEMENT.now covered refl))
    (good_embargo embargo)

good_stated : (covered embargo : List ℕ) → Good (stated_marks covered embargo)
unfolding stated_marks words_marks
good_stated covered embargo =
    good_element COVERAGE.now COVERAGE.now (words_marks covered embargo) refl
    (good_element COVERAGE_TEXT.now COVERAGE_TEXT.now (statement_marks covered embargo) refl (good_statements covered embargo))

good_coverage : (coverage : Option RowValue) → Good (coverage_marks coverage)
good_coverage None = good_nothing
good_coverage (Some row) = good_stated (coverage_words row) (embargo_words row.embargo)

good_target : (target : TargetValue) → Good (target_marks target)
unfolding target_marks
good_target target =
    good_element TARGET.now TARGET.now (names_marks target.service ++ (place_marks target.service ++ coverage_marks target.coverage)) refl
    (good_append (names_marks target.service) (place_marks target.service ++ coverage_marks target.coverage) (good_names target.service)
    (good_append (place_marks target.service) (coverage_marks target.coverage) (good_place target.service) (good_coverage target.coverage)))

good_targets : (targets : List TargetValue) → Good (flat_map target_marks targets)
good_targets [] = good_nothing
good_targets (target ∷ targets) = good_append (target_marks target) (flat_map target_marks targets) (good_target target) (good_targets targets)

good_packages : (names : List (List ℕ)) → Good (flat_map package_marks names)
good_packages [] = good_nothing
good_packages (name ∷ names) = good_append (package_marks name) (flat_map package_marks names) (good_leaf PACKAGE.now name refl) (good_packages names)

good_named : (more : List (List ℕ)) → Good (named_marks more)
good_named more =
    good_append (flat_map package_marks (take named_limit more)) (others_marks (length more - named_limit)) (good_packages (take named_limit more))
    (good_unless ((length more - named_limit) == 0) (number_leaf OTHERS.now (length more - named_limit)) (good_number OTHERS.now (length more - named_limit) refl))

good_more : (more : List (List ℕ)) → Good (more_marks more)
unfolding more_marks
good_more more =
    good_unless (is_empty more) (element MORE_IN.now MORE_IN.now (named_marks more)) (good_element MORE_IN.now MORE_IN.now (named_marks more) refl (good_named more))

good_request : (targets : List TargetValue) (more : List (List ℕ)) → Good (request_marks targets more)
good_request targets more =
    let list : List Mark = element CTX_OBJ_TARGETS.now CTX_OBJ_TARGETS.now (flat_map target_marks targets) in
    good_append (leaf CTX_OBJ_ATTRIBUTES.now []) (list ++ more_marks more) (good_leaf CTX_OBJ_ATTRIBUTES.now [] refl)
    (good_append list (more_marks more)
    (good_element CTX_OBJ_TARGETS.now CTX_OBJ_TARGETS.now (flat_map target_marks targets) refl (good_targets targets)) (good_more more))

good_reply : (targets : List TargetValue) (more : List (List ℕ)) → Good (reply_marks targets more)
good_reply targets more =
    good_element CTX_OBJ_SET.now CTX_OBJ_SET.now (element CTX_OBJ.now CTX_OBJ.now (request_marks targets more)) refl
    (good_element CTX_OBJ.now CTX_OBJ.now (request_marks targets more) refl (good_request targets more))

-- a reader gets a reply back
pub reply_read : SfxReadsBack
reply_read targets more = good_read (reply_marks targets more) (good_reply targets more)

-- and its tags are balanced
pub reply_balanced : SfxIsBalanced
reply_balanced targets more = good_balanced (reply_marks targets more) (good_reply targets more)
