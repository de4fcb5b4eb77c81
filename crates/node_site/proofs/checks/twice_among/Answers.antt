use Rattle.std.proofs.Common.{◌∙◌, ap, arith, sym, take, List, ℕ, Some}
use Rattle.std.specs.List.{list_any}
use Rattle.std.specs.Str.{str_eq_ignore_ascii_case}
use Rattle.toml.specs.declared.value.Value.{Value}
use Rattle.node_site.proofs.Twice.{found_twice, host_at, next_twice}
use Rattle.node_site.proofs.checks.twice_among.Goals as goal

pub loop-index-preserved : goal.loop-index-preserved
loop-index-preserved c = next_twice c.args.name.now c.args.rows.now.items c.loop-index.index c.index.result.now _
    (omega (arith, c.loop-index-test.true)) c.index.ensures
    (ap (λ (h : List ℕ). list_any (λ v. str_eq_ignore_ascii_case h (host_at v)) (take c.loop-index.index c.args.rows.now.items)) (sym c.host_in.ensures)
    ∙ ap (λ (vs : List Value). list_any (λ v. str_eq_ignore_ascii_case c.host_in.result.now (host_at v)) vs) (sym c.earlier.ensures)
    ∙ sym c.has_host.ensures ∙ c.if-has_host.false)
    c.loop-index.invariant

pub returns-then-has_host : goal.returns-then-has_host
returns-then-has_host c = ap Some c.twice_at.ensures ∙ found_twice c.args.name.now c.args.rows.now.items c.loop-index.index c.index.result.now _
    (omega (arith, c.loop-index-test.true)) c.index.ensures
    (ap (λ (h : List ℕ). list_any (λ v. str_eq_ignore_ascii_case h (host_at v)) (take c.loop-index.index c.args.rows.now.items)) (sym c.host_in.ensures)
    ∙ ap (λ (vs : List Value). list_any (λ v. str_eq_ignore_ascii_case c.host_in.result.now (host_at v)) vs) (sym c.earlier.ensures)
    ∙ sym c.has_host.ensures ∙ c.if-has_host.true)
    c.loop-index.invariant
