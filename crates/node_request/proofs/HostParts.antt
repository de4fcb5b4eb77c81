-- The parts of a request on which its host depends.
use Rattle.std.proofs.Common.{◌≡◌, ◌∙◌, ℕ, true, List, Option, Some, None, is_some, codes, refl, sym, ap}
use Rattle.std.specs.Option.{option_and_then, option_map, option_or}
use Rattle.httparse.specs.Grammar.{RequestHead}
use Rattle.feed_http_heads.specs.Fields.{only, values_named}
use Rattle.node_request.specs.Hosts.{authority_in, behind_scheme, host_in, host_of}
use Rattle.node_request.specs.HostLaws.{OtherFieldsDoNotCount, WholeTargetDecides}

-- the host of a target and of the values of Host fields
abbrev host_by : List ℕ → List (List ℕ) → Option (List ℕ)
host_by target values = option_and_then host_in (option_or (option_map authority_in (behind_scheme target)) (only values))

host_is : (head : RequestHead) → host_of head ≡ host_by head.target (values_named (codes "host") head.fields)
unfolding host_of
host_is head = refl

pub other_fields : OtherFieldsDoNotCount
other_fields one other target values =
    host_is one ∙ ap (λ (text : List ℕ). host_by text (values_named (codes "host") one.fields)) target
    ∙ ap (host_by other.target) values ∙ sym (host_is other)

given : (whole here there : Option (List ℕ)) → is_some whole ≡ true → option_or (option_map authority_in whole) here ≡ option_or (option_map authority_in whole) there
given None here there h = cc
given (Some rest) here there h = refl

pub whole_target : WholeTargetDecides
whole_target one other target whole =
    host_is one
    ∙ ap (option_and_then host_in) (given (behind_scheme one.target) (only (values_named (codes "host") one.fields)) (only (values_named (codes "host") other.fields)) whole)
    ∙ ap (λ (text : List ℕ). host_by text (values_named (codes "host") other.fields)) target ∙ sym (host_is other)
