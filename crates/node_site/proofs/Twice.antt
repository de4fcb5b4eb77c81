-- The first table about a host of an earlier one.
use Rattle.std.proofs.Common.{◌≡◌, ℕ, ◌+◌, ◌<◌, Bool, true, false, List, [], ◌∷◌, ◌++◌, Option, Some, if◌then◌else◌, length, take, drop, map, get_or, refl, sym, ap, ◌∙◌}
use Rattle.std.specs.List.{list_any}
use Rattle.std.specs.Str.{str_eq_ignore_ascii_case}
use Rattle.std.proofs.lemmas.List.{drop_more, map-append, take_more}
use Rattle.toml.specs.Data.{as_table}
use Rattle.toml.specs.View.{items_view, view}
use Rattle.toml.specs.declared.value.Value.{Value}
use Rattle.node_site.specs.Faults.{MisfitValue, host_in, twice_at, twice_from}

-- the host of a row
abbrev pub host_at : Value → List ℕ
host_at row = host_in (as_table (view row))

any_at : (test : List ℕ → Bool) (rows : List Value) → list_any (λ row. test (host_at row)) rows ≡ list_any test (map host_at rows)
any_at test [] = refl
any_at test (row ∷ rows) = rw (any_at test rows) refl

module _ (key : List ℕ) (rows : List Value) (place : ℕ) (row : Value) (all : Option MisfitValue) (within : place < length rows) (at : row ≡ get_or rows place row) where
  -- what is said of the rows from a place on, with those before it
  abbrev pub so_far : ℕ → Option MisfitValue
  so_far k = twice_from key (map host_at (take k rows)) (k + 1) (items_view (drop k rows))

  abbrev is_earlier : Bool
  is_earlier = list_any (str_eq_ignore_ascii_case (host_at row)) (map host_at (take place rows))

  -- the rows behind it
  abbrev behind : Option MisfitValue
  behind = twice_from key (map host_at (take place rows) ++ host_at row ∷ []) (place + 1 + 1) (items_view (drop (place + 1) rows))

  here : so_far place ≡ (if is_earlier then Some (twice_at key (place + 1))
      else behind)
  here =
      ap (λ (vs : List Value). twice_from key (map host_at (take place rows)) (place + 1) (items_view vs))
      (drop_more rows place row within ∙ ap (λ (v : Value). v ∷ drop (place + 1) rows) (sym at))

  hosts : map host_at (take (place + 1) rows) ≡ map host_at (take place rows) ++ host_at row ∷ []
  hosts =
      ap (map host_at) (take_more rows place row within ∙ ap (λ (v : Value). take place rows ++ v ∷ []) (sym at))
      ∙ map-append host_at (take place rows) (row ∷ [])

  -- the row has a host of an earlier one
  pub found_twice : list_any (λ v. str_eq_ignore_ascii_case (host_at row) (host_at v)) (take place rows) ≡ true → so_far place ≡ all → Some (twice_at key (place + 1)) ≡ all
  found_twice test is =
      let earlier : is_earlier ≡ true = sym (any_at (str_eq_ignore_ascii_case (host_at row)) (take place rows)) ∙ test in
      sym (here ∙ ap (λ (b : Bool). if b then Some (twice_at key (place + 1)) else behind) earlier) ∙ is

  -- it has not
  pub next_twice : list_any (λ v. str_eq_ignore_ascii_case (host_at row) (host_at v)) (take place rows) ≡ false → so_far place ≡ all → so_far (place + 1) ≡ all
  next_twice test is =
      let earlier : is_earlier ≡ false = sym (any_at (str_eq_ignore_ascii_case (host_at row)) (take place rows)) ∙ test in
      ap (λ (hs : List (List ℕ)). twice_from key hs (place + 1 + 1) (items_view (drop (place + 1) rows))) hosts
      ∙ sym (here ∙ ap (λ (b : Bool). if b then Some (twice_at key (place + 1)) else behind) earlier)
      ∙ is
