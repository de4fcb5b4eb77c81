-- The pairs of a query may be written in parts.
use Rattle.std.proofs.Common.{◌≡◌, ◌∙◌, ℕ, List, [], ◌++◌, Option, codes}
use Rattle.std.proofs.lemmas.List.Sums.{fold-append}
use Rattle.form_urlencoded.specs.Form.{append_pair, extend_pairs}
use Rattle.feed_openurl.specs.Written.{date_pairs, isbn_pairs, issn_pairs, volume_pairs, written_of}

-- the pairs may be appended in parts
pub written_steps : (issns isbns : List (List ℕ)) (date volume : Option (List ℕ)) →
    written_of issns isbns date volume
    ≡ extend_pairs (extend_pairs (extend_pairs (extend_pairs (append_pair [] (codes "url_ver") (codes "Z39.88-2004")) (issn_pairs issns)) (isbn_pairs isbns)) (date_pairs date)) (volume_pairs volume)
written_steps issns isbns date volume =
    let add = λ (text : List ℕ) (pair : List ℕ × List ℕ). append_pair text pair.0 pair.1 in
    let version = append_pair [] (codes "url_ver") (codes "Z39.88-2004") in
    let with_issns = extend_pairs version (issn_pairs issns) in
    let with_isbns = extend_pairs with_issns (isbn_pairs isbns) in
    fold-append add version (issn_pairs issns) (isbn_pairs isbns ++ (date_pairs date ++ volume_pairs volume))
    ∙ fold-append add with_issns (isbn_pairs isbns) (date_pairs date ++ volume_pairs volume)
    ∙ fold-append add with_isbns (date_pairs date) (volume_pairs volume)
