use Rattle.std.proofs.Common.{◌≡◌, ◌+◌, ◌++◌, ◌&&◌, drop}
use Rattle.std.specs.List.{count_by, list_all}
use Rattle.node_links.specs.Articles.{gives_others, is_given_or_row, is_row_name, row_names}
use Rattle.node_links.specs.Requests.{filled, filled_from, names_from}
use Rattle.node_links.proofs.filling.Filling.of.Given as goal

abbrev pub invariant-loop-byte : goal.invariant-loop-byte
invariant-loop-byte l =
    (l.filling.link.items ++ filled_from l.cited l.filling.is_open l.filling.name.items (drop l.byte-index l.template) ≡ filled l.cited l.template)
    × ((l.filling.is_whole && list_all (is_given_or_row l.cited) (names_from l.filling.is_open l.filling.name.items (drop l.byte-index l.template)))
    ≡ gives_others l.cited l.template)
    × (l.filling.row_names + count_by is_row_name (names_from l.filling.is_open l.filling.name.items (drop l.byte-index l.template))
    ≡ row_names l.template)
