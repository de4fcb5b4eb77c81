-- The same releases have the same tags, and the same inputs of a tag the same responses.
use Rattle.std.proofs.Common.{◌≡◌, ℕ, List, [], ◌∷◌, ◌++◌, refl, ap, sym, ◌∙◌, codes, subst}
use Rattle.std.specs.List.{flat_map}
use Rattle.feed_names.specs.ReleaseName.{Name}
use Rattle.feed_releases.specs.Actives.{ActiveValue, names_of}
use Rattle.feed_releases.proofs.ByPackage.{listed_alike}
use Rattle.node_hits.specs.Hits.{name_text}
use Rattle.node_response.specs.Tags.{entity_tag, inputs_of}
use Rattle.node_resolver.specs.Answers.{dated}
use Rattle.node_resolver.specs.Responses.{IsResponse}
use Rattle.node_resolver.specs.Status.{active_line}
use Rattle.node_resolver.specs.TagLaws.{SameReleasesSameTag, SameInputsSameBytes}
use Rattle.node_resolver.proofs.SameBytes.{one_response, same_actives}

abbrev name_line : Name → List ℕ
name_line name = name_text name ++ codes "\n"

-- the lines of active releases are those of their names
lines_of_names : (actives : List ActiveValue) → flat_map active_line actives ≡ flat_map name_line (names_of actives)
unfolding active_line
lines_of_names [] = refl
lines_of_names (active ∷ actives) = ap (λ t. name_line active.name ++ t) (lines_of_names actives)

pub same_tag : SameReleasesSameTag
same_tag site today h k one other representation alike here there =
    ap (λ t. entity_tag (inputs_of site today t representation))
    (lines_of_names one ∙ ap (flat_map name_line) (listed_alike h k one other alike here there) ∙ sym (lines_of_names other))

pub same_inputs : SameInputsSameBytes
same_inputs file site today h k one other bytes body keeps response reply first second here there names is also =
    one_response site keeps bytes body (dated today other) response reply
    (subst (λ (actives : List ActiveValue). IsResponse site bytes body keeps (dated today actives) response) (same_actives file h k one other first second here there names) is) also
