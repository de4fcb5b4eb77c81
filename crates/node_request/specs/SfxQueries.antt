-- The options that a query sets for the reply of SFX. The fields of a query are separated by `&`, and are not decoded.
use Rattle.std.specs.Prelude.{ℕ, ◌||◌, Bool, true, false, if◌then◌else◌, List, [], ◌∷◌, codes, Option, Some, None}
use Rattle.std.specs.Option.{option_map_or}
use Rattle.std.specs.Str.{bytes_eq}
use Rattle.feed_bytes.specs.Parts.{parts_at}
use Rattle.node_request.specs.declared.sfx_query.SfxOptions.{SfxOptions}

-- whether the form that a field asks for is the detailed one; other fields ask for none
abbrev pub sfx_form_in : List ℕ → Option Bool
sfx_form_in piece =
    if bytes_eq piece (codes "sfx.response_type=multi_obj_xml") then Some false
    else (if bytes_eq piece (codes "sfx.response_type=multi_obj_detailed_xml") || bytes_eq piece (codes "format=sfx") then Some true
    else None)

-- the same of the first field that asks for one
abbrev pub first_form : List (List ℕ) → Option Bool
first_form [] = None
first_form (piece ∷ pieces) = option_map_or (λ is_detailed. Some is_detailed) (sfx_form_in piece) (first_form pieces)

abbrev pub first_form_of : List ℕ → Option Bool
first_form_of query = first_form (parts_at 38 query)

-- whether the form is the detailed one
abbrev pub is_detailed : List ℕ → Bool
is_detailed query = option_map_or (λ is_detailed. is_detailed) (first_form_of query) false

-- whether a field asks for full texts alone
abbrev pub asks_for_full_texts : List (List ℕ) → Bool
asks_for_full_texts [] = false
asks_for_full_texts (piece ∷ pieces) = bytes_eq piece (codes "svc.fulltext=yes") || asks_for_full_texts pieces

abbrev pub full_texts_only : List ℕ → Bool
full_texts_only query = asks_for_full_texts (parts_at 38 query)

-- what a query asks
abbrev pub sfx_options_in : List ℕ → SfxOptions
sfx_options_in query = record { is_detailed = is_detailed query; full_texts_only = full_texts_only query }
