use Rattle.std.proofs.Common.{◌≡◌, List, ℕ, Ok, Err, sym, rules}
use Rattle.std.proofs.lemmas.Fn.{always_returns_same}
use Rattle.node_site.specs.HoldingsEntries.{hash_of, key_at, key_cmp}
use Rattle.node_site.proofs.HoldingsOrder.{found}
use Rattle.node_site.proofs.holdings_file.row_about.Goals as goal

pub returns-in-Ok : goal.returns-in-Ok
returns-in-Ok c =
    let text = c.args.text.now in
    let subject : List ℕ × List ℕ = (c.args.package_id.now, c.args.id.now) in
    let key : ℕ × (List ℕ × List ℕ) = (hash_of subject, subject) in
    sym (found text c.args.entries.now c.requires c.args.package_id.now c.args.id.now (Ok c.in-Ok.index) c.in-Ok.ensures.bound
    (c.in-Ok.ensures.position (λ entry. key_cmp (key_at text entry) key)
    (always_returns_same _ (λ a r. r ≡ key_cmp (key_at text a.0.now) key) _ (λ a r q k. search rules))))

pub returns-in-Err : goal.returns-in-Err
returns-in-Err c =
    let text = c.args.text.now in
    let subject : List ℕ × List ℕ = (c.args.package_id.now, c.args.id.now) in
    let key : ℕ × (List ℕ × List ℕ) = (hash_of subject, subject) in
    sym (found text c.args.entries.now c.requires c.args.package_id.now c.args.id.now (Err c.in-Err.field-0) c.in-Err.ensures.bound
    (c.in-Err.ensures.position (λ entry. key_cmp (key_at text entry) key)
    (always_returns_same _ (λ a r. r ≡ key_cmp (key_at text a.0.now) key) _ (λ a r q k. search rules))))
