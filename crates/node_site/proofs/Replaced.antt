-- The texts that a site replaces.
use Rattle.std.proofs.Common.{◌≡◌, ℕ, List, Option, Some, None, codes, if◌then◌else◌, Ordering, Less, Equal, Greater, nat_cmp, refl, ap, ◌∙◌}
use Rattle.std.specs.Option.{option_and_then}
use Rattle.std.specs.Ordering.{is_eq, match_ordering}
use Rattle.std.specs.Cmp.Lexicographic.{slice_cmp}
use Rattle.std.proofs.lemmas.Map.Text.{is_eq-slice_cmp}
use Rattle.toml.specs.Data.{Data, Members, no_members, member, as_str, get_member}
use Rattle.node_site.specs.Lookups.{table_at, text_at}
use Rattle.node_site.specs.Site.{replaced_in, replaced_of, replacement, text_in}

key_case : (o : Ordering) (d : Data) (found : Option Data) (words : Option (List ℕ)) → option_and_then as_str found ≡ words
    → option_and_then as_str (match_ordering o found (Some d) found) ≡ (if is_eq o then as_str d else words)
key_case Less d found words e = e
key_case Equal d found words e = refl
key_case Greater d found words e = e

-- the text at a key of a table is the one that replaces that of this name
at_key : (name : List ℕ) (ms : Members) → text_at name ms ≡ replacement name (replaced_of ms)
at_key name no_members = refl
at_key name (member key d ms) =
    key_case (slice_cmp nat_cmp name key) d (get_member name ms) (replacement name (replaced_of ms)) (at_key name ms)
    ∙ ap (λ b. if b then as_str d else replacement name (replaced_of ms)) (is_eq-slice_cmp name key)

in_table : (name : List ℕ) (o : Option Members) → option_and_then (text_at name) o ≡ replacement name (replaced_in o)
in_table name None = refl
in_table name (Some ms) = at_key name ms

pub text_is : (name : List ℕ) (doc : Members) → text_in (codes "texts") name doc ≡ replacement name (replaced_in (table_at (codes "texts") doc))
text_is name doc = in_table name (table_at (codes "texts") doc)
