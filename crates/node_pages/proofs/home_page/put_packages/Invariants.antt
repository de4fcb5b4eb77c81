use Rattle.std.proofs.Common.{◌≡◌, ◌≤◌, ◌++◌, length, take}
use Rattle.node_templates.specs.Pages.{page_text}
use Rattle.node_pages.specs.HomePage.{listed, packages}
use Rattle.node_pages.proofs.home_page.put_packages.Given as goal

-- the first packages so far are written, and all are counted
abbrev pub invariant-loop-active : goal.invariant-loop-active
invariant-loop-active l =
    ((l.out.items ≡ l.fn.out.items ++ page_text l.site (packages l.site l.most (take l.active-index l.actives)))
    × (l.count ≡ length (listed (take l.active-index l.actives)))) × (l.count ≤ l.active-index)
