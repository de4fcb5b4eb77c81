use Rattle.std.proofs.Common.{◌≡◌, ◌∙◌, ap, option_map, rules, take, map, List}
use Rattle.std.specs.Prelude.{find, is_none}
use Rattle.feed_kbart.specs.HeaderLabels.{found_of}
use Rattle.feed_kbart.specs.Labels.{required_labels}
use Rattle.feed_kbart.specs.declared.header.Found.{Found}
use Rattle.feed_kbart.proofs.Headers.{missing-found}
use Rattle.feed_kbart.proofs.header.HeaderLabels.missing.Goals as goal

pub returns : goal.returns
returns c header labels =
    let mapped : c.map.result ≡ option_map (λ (f : Found). f.label) c.first_absent.result = search rules in
    let front : c.first_absent.result ≡ find (λ (f : Found). is_none f.first) (map (found_of header) required_labels) =
    c.first_absent.ensures ∙ ap (λ (l : List Found). find (λ (f : Found). is_none f.first) (take 8 l)) labels.found in
    mapped ∙ ap (option_map (λ (f : Found). f.label)) front ∙ missing-found header required_labels
