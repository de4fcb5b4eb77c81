use Rattle.std.proofs.Common.{◌≡◌, ◌∙◌, ap, option_map, rules, map, List}
use Rattle.std.specs.Prelude.{find}
use Rattle.feed_kbart.specs.HeaderLabels.{found_of}
use Rattle.feed_kbart.specs.Labels.{used_labels}
use Rattle.feed_kbart.specs.declared.header.Found.{Found}
use Rattle.feed_kbart.proofs.Headers.{twice-found}
use Rattle.feed_kbart.proofs.header.HeaderLabels.twice.Goals as goal

pub returns : goal.returns
returns c header labels =
    let mapped : c.map.result ≡ option_map (λ (f : Found). f.label) c.first_doubled.result = search rules in
    let all : c.first_doubled.result ≡ find (λ (f : Found). f.is_twice) (map (found_of header) used_labels) =
    c.first_doubled.ensures ∙ ap (λ (l : List Found). find (λ (f : Found). f.is_twice) l) labels.found in
    mapped ∙ ap (option_map (λ (f : Found). f.label)) all ∙ twice-found header used_labels
