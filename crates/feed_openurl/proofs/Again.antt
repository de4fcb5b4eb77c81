-- The written query is understood as the query for which it is written.
use Rattle.std.proofs.Common.{◌≡◌, ℕ, false, ◌||◌, List, [], ◌∷◌, ◌++◌, Option}
use Rattle.std.proofs.Common.{Some, None, if◌then◌else◌, codes, refl, ap, ◌∙◌, map, arith}
use Rattle.std.specs.Prelude.{IfSome, option_map}
use Rattle.std.specs.List.{All, cons_option, filter_map, flat_map, list_any}
use Rattle.std.proofs.lemmas.Bool.{le-ltb}
use Rattle.std.proofs.lemmas.List.Elements.{All-head, All-tail}
use Rattle.percent_encoding.specs.Percent.{percent_decode}
use Rattle.feed_answer.specs.IdentifierSet.{identifier_set}
use Rattle.feed_answer.specs.Pairs.{first}
use Rattle.feed_identifiers.specs.Identifier.{isbn_in, issn_in}
use Rattle.feed_openurl.specs.Identifiers.{IdentifiersValue, LookedUp, are_none, count, identifier_limit, identifiers_among}
use Rattle.feed_openurl.specs.Identifiers.{identifiers_of, looked_up, number_or_others, numbers_of_pair, reason_by, reason_without, refused, within_limit}
use Rattle.feed_openurl.specs.Keys.{keyed, or_text}
use Rattle.feed_openurl.specs.Kinds.{formats_of, names_other_format, names_other_version}
use Rattle.feed_openurl.specs.Laws.{WrittenIsItself, WrittenIsUnderstood, of_written, refusal_of_written}
use Rattle.feed_openurl.specs.Numbers.{numbers_in}
use Rattle.feed_openurl.specs.Texts.{IsDateText, IsVolumeText}
use Rattle.feed_openurl.specs.Tiers.{date_in, date_of, lenient_date_of, lenient_volume_of, strict_date_of, strict_volume_of, volume_in, volume_of}
use Rattle.feed_openurl.specs.Values.{AreIdentifiers, IsCounted, IsIsbnText, IsIssnText, IsWellFormed, OpenUrlValue, understood_pairs}
use Rattle.feed_openurl.specs.Written.{date_pairs, isbn_pairs, issn_pairs, pairs_for, version_pair, volume_pairs, written}
use Rattle.feed_openurl.specs.declared.fault.OpenUrlFault.{OpenUrlFault}
use Rattle.feed_openurl.specs.declared.fault.OpenUrlFault.TheVariants as reason
use Rattle.feed_openurl.specs.declared.key.Key.{Key}
use Rattle.feed_openurl.specs.declared.key.Tier.{Tier}
use Rattle.feed_openurl.specs.declared.key.Tier.TheVariants.{Old, Rft}
use Rattle.feed_identifiers.specs.declared.identifier.Identifier.TheVariants.{Isbn, Issn}
use Rattle.feed_openurl.proofs.Contained.{found_kept}
use Rattle.feed_openurl.proofs.Written.{Pair, date_written, none_read, set_of_ascending, some_are, volume_written, written_pairs, written_parses}

-- what is read of the values is read of their pairs
mapped : {A : Type 0} (read : Key × List ℕ → Option A) (pairs : List Pair) → filter_map read (map keyed pairs) ≡ filter_map (λ pair. read (keyed pair)) pairs
mapped read [] = refl
mapped read (pair ∷ pairs) = ap (cons_option (read (keyed pair))) (mapped read pairs)

-- without a date no date is read, and without a volume no volume
no_dates : (read : Pair → Option (List ℕ)) → read version_pair ≡ None → ((text : List ℕ) → read (codes "rft.issn", text) ≡ None)
    → ((text : List ℕ) → read (codes "rft.isbn", text) ≡ None) → ((text : List ℕ) → read (codes "rft.volume", text) ≡ None)
    → (issns isbns : List (List ℕ)) (volume : Option (List ℕ)) → filter_map read (pairs_for issns isbns None volume) ≡ []
no_dates read version first second third issns isbns None = none_read read version first second issns isbns []
no_dates read version first second third issns isbns (Some volume) =
    none_read read version first second issns isbns (volume_pairs (Some volume)) ∙ ap (λ o. cons_option o []) (third volume)

no_volumes : (read : Pair → Option (List ℕ)) → read version_pair ≡ None → ((text : List ℕ) → read (codes "rft.issn", text) ≡ None)
    → ((text : List ℕ) → read (codes "rft.isbn", text) ≡ None) → ((text : List ℕ) → read (codes "rft.date", text) ≡ None)
    → (issns isbns : List (List ℕ)) (date : Option (List ℕ)) → filter_map read (pairs_for issns isbns date None) ≡ []
no_volumes read version first second third issns isbns None = none_read read version first second issns isbns []
no_volumes read version first second third issns isbns (Some date) =
    none_read read version first second issns isbns (date_pairs (Some date)) ∙ ap (λ o. cons_option o []) (third date)

module _ (issns isbns : List (List ℕ)) where
  no_date_in : (tier : Tier) (volume : Option (List ℕ)) → date_in tier (map keyed (pairs_for issns isbns None volume)) ≡ None
  no_date_in tier volume =
      let values = map keyed (pairs_for issns isbns None volume) in
      let strict = mapped (strict_date_of tier) (pairs_for issns isbns None volume)
      ∙ no_dates (λ pair. strict_date_of tier (keyed pair)) refl (λ t. refl) (λ t. refl) (λ t. refl) issns isbns volume in
      let lenient = mapped (lenient_date_of tier) (pairs_for issns isbns None volume)
      ∙ no_dates (λ pair. lenient_date_of tier (keyed pair)) refl (λ t. refl) (λ t. refl) (λ t. refl) issns isbns volume in
      ap (λ l. or_text (first l) (first (filter_map (lenient_date_of tier) values))) strict ∙ ap first lenient

  no_volume_in : (tier : Tier) (date : Option (List ℕ)) → volume_in tier (map keyed (pairs_for issns isbns date None)) ≡ None
  no_volume_in tier date =
      let values = map keyed (pairs_for issns isbns date None) in
      let strict = mapped (strict_volume_of tier) (pairs_for issns isbns date None)
      ∙ no_volumes (λ pair. strict_volume_of tier (keyed pair)) refl (λ t. refl) (λ t. refl) (λ t. refl) issns isbns date in
      let lenient = mapped (lenient_volume_of tier) (pairs_for issns isbns date None)
      ∙ no_volumes (λ pair. lenient_volume_of tier (keyed pair)) refl (λ t. refl) (λ t. refl) (λ t. refl) issns isbns date in
      ap (λ l. or_text (first l) (first (filter_map (lenient_volume_of tier) values))) strict ∙ ap first lenient

  date_again : (date volume : Option (List ℕ)) → IfSome date IsDateText → date_of (pairs_for issns isbns date volume) ≡ date
  date_again None volume is =
      let values = map keyed (pairs_for issns isbns None volume) in
      ap (λ o. or_text o (or_text (date_in Rft values) (date_in Old values))) (date_written issns isbns None volume is)
      ∙ ap (λ o. or_text o (date_in Old values)) (no_date_in Rft volume) ∙ no_date_in Old volume
  date_again (Some date) volume is =
      let values = map keyed (pairs_for issns isbns (Some date) volume) in
      ap (λ o. or_text o (or_text (date_in Rft values) (date_in Old values))) (date_written issns isbns (Some date) volume is)

  volume_again : (date volume : Option (List ℕ)) → IfSome volume IsVolumeText → volume_of (pairs_for issns isbns date volume) ≡ volume
  volume_again date None is =
      let values = map keyed (pairs_for issns isbns date None) in
      ap (λ o. or_text o (or_text (volume_in Rft values) (volume_in Old values))) (volume_written issns isbns date None is)
      ∙ ap (λ o. or_text o (volume_in Old values)) (no_volume_in Rft date) ∙ no_volume_in Old date
  volume_again date (Some volume) is =
      let values = map keyed (pairs_for issns isbns date (Some volume)) in
      ap (λ o. or_text o (or_text (volume_in Rft values) (volume_in Old values))) (volume_written issns isbns date (Some volume) is)

-- the identifiers that are written are looked up
abbrev identifiers : List (List ℕ) → List (List ℕ) → IdentifiersValue
identifiers issns isbns = record { issns = issns; isbns = isbns }

abbrev looked : List (List ℕ) → List (List ℕ) → Option OpenUrlFault → LookedUp
looked issns isbns refusal = record { issns = issns; isbns = isbns; refusal = refusal }

-- a pair that is written has the one number that the core reads
issn_alone : (issn : List ℕ) → IsIssnText issn → numbers_of_pair (codes "rft.issn", issn) ≡ Issn issn ∷ []
unfolding numbers_of_pair
issn_alone issn is = ap (λ (o : Option (List ℕ)). number_or_others (option_map Issn o) (numbers_in issn)) is

isbn_alone : (isbn : List ℕ) → IsIsbnText isbn → numbers_of_pair (codes "rft.isbn", isbn) ≡ Isbn isbn ∷ []
unfolding numbers_of_pair
isbn_alone isbn is = ap (λ (o : Option (List ℕ)). number_or_others (option_map Isbn o) (numbers_in isbn)) is

version_alone : numbers_of_pair version_pair ≡ []
unfolding numbers_of_pair
version_alone = refl

date_alone : (date : List ℕ) → numbers_of_pair (codes "rft.date", date) ≡ []
unfolding numbers_of_pair
date_alone date = refl

volume_alone : (volume : List ℕ) → numbers_of_pair (codes "rft.volume", volume) ≡ []
unfolding numbers_of_pair
volume_alone volume = refl

last_alone : (date volume : Option (List ℕ)) → flat_map numbers_of_pair (date_pairs date ++ volume_pairs volume) ≡ []
last_alone None None = refl
last_alone None (Some volume) = ap (λ l. l ++ []) (volume_alone volume)
last_alone (Some date) None = ap (λ l. l ++ []) (date_alone date)
last_alone (Some date) (Some volume) =
    ap (λ l. l ++ (numbers_of_pair (codes "rft.volume", volume) ++ [])) (date_alone date) ∙ ap (λ l. l ++ []) (volume_alone volume)

issns_alone : (issns : List (List ℕ)) (rest : List Pair) → All IsIssnText issns
    → flat_map numbers_of_pair (issn_pairs issns ++ rest) ≡ map Issn issns ++ flat_map numbers_of_pair rest
issns_alone [] rest all = refl
issns_alone (issn ∷ issns) rest all =
    ap (λ l. l ++ flat_map numbers_of_pair (issn_pairs issns ++ rest)) (issn_alone issn (All-head IsIssnText issn issns all))
    ∙ ap (λ l. Issn issn ∷ l) (issns_alone issns rest (All-tail IsIssnText issn issns all))

isbns_alone : (isbns : List (List ℕ)) (rest : List Pair) → All IsIsbnText isbns
    → flat_map numbers_of_pair (isbn_pairs isbns ++ rest) ≡ map Isbn isbns ++ flat_map numbers_of_pair rest
isbns_alone [] rest all = refl
isbns_alone (isbn ∷ isbns) rest all =
    ap (λ l. l ++ flat_map numbers_of_pair (isbn_pairs isbns ++ rest)) (isbn_alone isbn (All-head IsIsbnText isbn isbns all))
    ∙ ap (λ l. Isbn isbn ∷ l) (isbns_alone isbns rest (All-tail IsIsbnText isbn isbns all))

-- the ISSNs and the ISBNs among these numbers
issns_in : (issns isbns : List (List ℕ)) → filter_map issn_in (map Issn issns ++ (map Isbn isbns ++ [])) ≡ issns
issns_in [] [] = refl
issns_in [] (isbn ∷ isbns) = issns_in [] isbns
issns_in (issn ∷ issns) isbns = ap (λ l. issn ∷ l) (issns_in issns isbns)

isbns_in : (issns isbns : List (List ℕ)) → filter_map isbn_in (map Issn issns ++ (map Isbn isbns ++ [])) ≡ isbns
isbns_in [] [] = refl
isbns_in [] (isbn ∷ isbns) = ap (λ l. isbn ∷ l) (isbns_in [] isbns)
isbns_in (issn ∷ issns) isbns = isbns_in issns isbns

module _ (issns isbns : List (List ℕ)) (date volume : Option (List ℕ)) (are : AreIdentifiers issns isbns) where
  abbrev pairs : List Pair
  pairs = pairs_for issns isbns date volume

  numbers_are : flat_map numbers_of_pair pairs ≡ map Issn issns ++ (map Isbn isbns ++ [])
  numbers_are =
      let last = date_pairs date ++ volume_pairs volume in
      ap (λ l. l ++ flat_map numbers_of_pair (issn_pairs issns ++ (isbn_pairs isbns ++ last))) version_alone
      ∙ issns_alone issns (isbn_pairs isbns ++ last) are.issns_parse
      ∙ ap (λ l. map Issn issns ++ l) (isbns_alone isbns last are.isbns_parse ∙ ap (λ l. map Isbn isbns ++ l) (last_alone date volume))

  identifiers_are : identifiers_of pairs ≡ identifiers issns isbns
  identifiers_are =
      let all = map Issn issns ++ (map Isbn isbns ++ []) in
      let first = ap identifier_set (issns_in issns isbns) ∙ set_of_ascending issns are.issns_ascend in
      let second = ap identifier_set (isbns_in issns isbns) ∙ set_of_ascending isbns are.isbns_ascend in
      ap identifiers_among numbers_are
      ∙ ap (λ l. identifiers l (identifier_set (filter_map isbn_in all))) first ∙ ap (identifiers issns) second

  looked_so : looked_up pairs ≡ (if are_none (identifiers issns isbns) then refused (reason_without (map keyed pairs)) else within_limit (identifiers issns isbns))
  looked_so = ap (λ f. if are_none f then refused (reason_without (map keyed pairs)) else within_limit f) identifiers_are

-- a query with the version alone, a date and a volume has nothing to look up
version_named : names_other_version (keyed version_pair) ≡ false
unfolding percent_decode
version_named = refl

nothing_of : (values : List (Key × List ℕ)) → list_any names_other_version values ≡ false
    → (if list_any names_other_format values then reason.OtherFormat else reason_by (formats_of values)) ≡ reason.NoIssn
    → reason_without values ≡ reason.NoIssn
nothing_of values first second =
    ap (λ b. if b then reason.Version else if list_any names_other_format values then reason.OtherFormat else reason_by (formats_of values)) first ∙ second

nothing : (date volume : Option (List ℕ)) → reason_without (map keyed (pairs_for [] [] date volume)) ≡ reason.NoIssn
nothing None None = nothing_of (map keyed (pairs_for [] [] None None)) (ap (λ b. b || false) version_named) refl
nothing None (Some volume) = nothing_of (map keyed (pairs_for [] [] None (Some volume))) (ap (λ b. b || false) version_named) refl
nothing (Some date) None = nothing_of (map keyed (pairs_for [] [] (Some date) None)) (ap (λ b. b || false) version_named) refl
nothing (Some date) (Some volume) = nothing_of (map keyed (pairs_for [] [] (Some date) (Some volume))) (ap (λ b. b || false) version_named) refl

looked_again : (issns isbns : List (List ℕ)) (date volume : Option (List ℕ)) (refusal : Option OpenUrlFault) → AreIdentifiers issns isbns → IsCounted issns isbns refusal
    → looked_up (pairs_for issns isbns date volume) ≡ looked issns isbns (refusal_of_written refusal)
looked_again issns isbns date volume None are is =
    looked_so issns isbns date volume are
    ∙ found_kept (identifiers issns isbns) (refused (reason_without (map keyed (pairs_for issns isbns date volume)))) (some_are issns isbns is.0)
    (le-ltb identifier_limit (count issns isbns) is.1)
looked_again [] [] date volume (Some why) are is = looked_so [] [] date volume are ∙ ap refused (nothing date volume)
looked_again [] (isbn ∷ isbns) date volume (Some why) are is = absurd (omega (arith, is))
looked_again (issn ∷ issns) isbns date volume (Some why) are is = absurd (omega (arith, is))

-- the parts of an understanding
abbrev together : LookedUp → Option (List ℕ) → Option (List ℕ) → OpenUrlValue
together found date volume = record { issns = found.issns; isbns = found.isbns; date = date; volume = volume; refusal = found.refusal }

pairs_again : (u : OpenUrlValue) → IsWellFormed u → understood_pairs (written_pairs u) ≡ of_written u
pairs_again u is =
    ap (λ l. together l (date_of (written_pairs u)) (volume_of (written_pairs u))) (looked_again u.issns u.isbns u.date u.volume u.refusal is.identifiers is.counted)
    ∙ ap (λ d. together (looked u.issns u.isbns (refusal_of_written u.refusal)) d (volume_of (written_pairs u))) (date_again u.issns u.isbns u.date u.volume is.date)
    ∙ ap (λ v. together (looked u.issns u.isbns (refusal_of_written u.refusal)) u.date v) (volume_again u.issns u.isbns u.date u.volume is.volume)

pub written_understood : WrittenIsUnderstood
written_understood u is = ap understood_pairs (written_parses u is) ∙ pairs_again u is

pub written_itself : WrittenIsItself
written_itself u is = ap written (written_understood u is)
