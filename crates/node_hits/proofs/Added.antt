-- A search of the first places of a release finds what it finds in the release.
use Rattle.std.proofs.Common.{◌≡◌, ◌+◌, ◌∙◌, inl, inr, ℕ, zero, suc, Bool, true, false, List, [], ◌∷◌, refl, sym, ap, subst, arith, length, take}
use Rattle.std.specs.Prelude.{◌&&◌, if◌then◌else◌, nat_le}
use Rattle.std.specs.List.{AllPass}
use Rattle.std.proofs.lemmas.Bool.Decides.{leb_tells}
use Rattle.std.proofs.lemmas.List.{length-take}
use Rattle.std.proofs.lemmas.List.Elements.{All-nil, All-take}
use Rattle.feed_answer.specs.QueryValue.{QueryValue}
use Rattle.feed_answer.specs.Today.{TodayValue}
use Rattle.feed_kbart.specs.RowValue.{RowValue}
use Rattle.feed_names.specs.ReleaseName.{Name}
use Rattle.node_site.specs.Held.{may_hold}
use Rattle.node_site.specs.Site as site_file
use Rattle.node_hits.specs.Looks.{are_fitting, asked_places, fitting, looks_at, looks_in, open_places, release_found}
use Rattle.feed_answer.specs.Grades.{has_named}
use Rattle.node_hits.specs.Searches.{SearchValue, is_asked_at}
use Rattle.node_hits.specs.Tallying.{RunningValue, with_end, with_hits, with_release}
use Rattle.node_hits.specs.declared.shares.Shares.{Shares}
use Rattle.node_hits.proofs.AskedRows.{all_pass}

-- the first of one more are the first
pub front_front : {X : Type 0} (n : ℕ) (xs : List X) → take n (take (n + 1) xs) ≡ take n xs
front_front {X} n xs = ap (λ m. take n (take m xs)) (let same : n + 1 ≡ suc n = omega arith in same) ∙ go n xs
  where
    go : (n : ℕ) (xs : List X) → take n (take (suc n) xs) ≡ take n xs
    go zero xs = refl
    go (suc n) [] = refl
    go (suc n) (x ∷ xs) = ap (λ l. x ∷ l) (go n xs)

-- whether there are more is known from one more
pub few_alike : {X : Type 0} (n : ℕ) (xs : List X) → nat_le (length (take (n + 1) xs)) n ≡ nat_le (length xs) n
few_alike {X} n xs =
    let len = length-take (n + 1) xs in
    elim (leb_tells (length (take (n + 1) xs)) n) [
      | inl (one, le) ↦ elim (leb_tells (length xs) n) [ inl (other, also) ↦ one ∙ sym other | inr (other, more) ↦ absurd (omega (arith, len, le, more)) ]
      | inr (one, more) ↦ elim (leb_tells (length xs) n) [ inl (other, le) ↦ absurd (omega (arith, len, le, more)) | inr (other, also) ↦ one ∙ sym other ]
    ]

-- each row at a place has one of the identifiers
pub each_asked : (site : site_file.SiteValue) (name : Name) (query asked : QueryValue) (rows : List RowValue) (limit share : ℕ) (places found front : List ℕ)
    → asked ≡ query → places ≡ found → found ≡ take limit (open_places site name asked rows) → front ≡ take share places
    → AllPass (is_asked_at query rows) front
each_asked site name query asked rows limit share places found front same listed is first =
    subst (AllPass (is_asked_at query rows)) (sym (first ∙ ap (take share) (listed ∙ is ∙ ap (λ (q : QueryValue). take limit (open_places site name q rows)) same)))
    (All-take (λ place. is_asked_at query rows place ≡ true) share (take limit (open_places site name query rows))
    (All-take (λ place. is_asked_at query rows place ≡ true) limit (open_places site name query rows) (go (may_hold site name.package_name))))
  where
    go : (b : Bool) → AllPass (is_asked_at query rows) (if b then asked_places query rows else [])
    go true = all_pass (has_named query) rows
    go false = All-nil (λ place. is_asked_at query rows place ≡ true)

-- a release was added
pub release_added : (shares : Shares) (site : site_file.SiteValue) (today : TodayValue) (search : SearchValue) (name : Name) (rows : List RowValue)
    (old mid new : RunningValue) (query : QueryValue) (places found front : List ℕ) (few fits : Bool)
    → query ≡ search.query → places ≡ found → found ≡ take (shares.rows + 1) (open_places site name query rows) → front ≡ take shares.rows places
    → few ≡ nat_le (length places) shares.rows
    → mid ≡ with_hits old (fitting shares.texts (looks_at site today search name rows front))
    → fits ≡ are_fitting shares.texts (looks_at site today search name rows front)
    → new ≡ with_end mid name (few && fits)
    → new ≡ with_release old (release_found shares site today search name rows)
release_added shares site today search name rows old mid new query places found front few fits asks listed is first counts hits whole ends =
    let opened : List ℕ = open_places site name search.query rows in
    let all : places ≡ take (shares.rows + 1) opened = listed ∙ is ∙ ap (λ (q : QueryValue). take (shares.rows + 1) (open_places site name q rows)) asks in
    let firsts : front ≡ take shares.rows opened = first ∙ ap (take shares.rows) all ∙ front_front shares.rows opened in
    let looked : looks_at site today search name rows front ≡ looks_in shares site today search name rows = ap (looks_at site today search name rows) firsts in
    let none_left : few ≡ nat_le (length opened) shares.rows = counts ∙ ap (λ (ps : List ℕ). nat_le (length ps) shares.rows) all ∙ few_alike shares.rows opened in
    ends ∙ ap (λ (r : RunningValue). with_end r name (few && fits)) (hits ∙ ap (λ looks. with_hits old (fitting shares.texts looks)) looked)
    ∙ ap (λ b. with_end (with_hits old (fitting shares.texts (looks_in shares site today search name rows))) name (b && fits)) none_left
    ∙ ap (λ b. with_end (with_hits old (fitting shares.texts (looks_in shares site today search name rows))) name (nat_le (length opened) shares.rows && b))
    (whole ∙ ap (are_fitting shares.texts) looked)
