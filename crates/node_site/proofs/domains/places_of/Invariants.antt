use Rattle.std.proofs.Common.{◌≡◌, ℕ, ◌||◌, List, drop}
use Rattle.std.specs.List.{list_any}
use Rattle.std.specs.Str.{bytes_eq, str_to_ascii_lowercase}
use Rattle.toml.specs.View.{items_view}
use Rattle.node_site.specs.Indexes.{is_known}
use Rattle.node_site.specs.Site.{texts_of}
use Rattle.node_site.proofs.domains.places_of.Given as goal

-- a text is a key, or one of the domains that are left
abbrev pub invariant-loop-index : goal.invariant-loop-index
invariant-loop-index l =
    (text : List ℕ) → (is_known text l.places || list_any (λ domain. bytes_eq (str_to_ascii_lowercase domain) text) (texts_of (items_view (drop l.index l.except.items))))
    ≡ list_any (λ domain. bytes_eq (str_to_ascii_lowercase domain) text) (texts_of (items_view l.except.items))
