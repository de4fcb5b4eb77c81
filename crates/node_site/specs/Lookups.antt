-- The values that a table has at its keys.
use Rattle.std.specs.Prelude.{ℕ, List, Option, Bool}
use Rattle.std.specs.Option.{option_and_then}
use Rattle.toml.specs.Data.{Items, Members, as_array, as_bool, as_str, as_table, get_member}

-- the text that a table has at a key
abbrev pub text_at : List ℕ → Members → Option (List ℕ)
text_at key ms = option_and_then as_str (get_member key ms)

-- the switch
abbrev pub switch_at : List ℕ → Members → Option Bool
switch_at key ms = option_and_then as_bool (get_member key ms)

-- the list
abbrev pub items_at : List ℕ → Members → Option Items
items_at key ms = option_and_then as_array (get_member key ms)

-- the table
abbrev pub table_at : List ℕ → Members → Option Members
table_at key ms = option_and_then as_table (get_member key ms)
