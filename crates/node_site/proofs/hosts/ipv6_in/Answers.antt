use Rattle.std.proofs.Common.{◌≡◌, ◌-◌, true, ◌==◌, length, get_or, sym, arith}
use Rattle.std.proofs.lemmas.Bool.Decides.{nat_tests}
use Rattle.url.proofs.HostLemmas.{whole_ipv6, no_ipv6}
use Rattle.node_site.proofs.hosts.ipv6_in.Goals as goal

pub returns-in-Ok : goal.returns-in-Ok
returns-in-Ok c =
    let host = c.args.host.now in
    let opened : (get_or host 0 0 == 91) ≡ true = grind (arith, nat_tests) in
    let closed : (get_or host (length host - 1) 0 == 93) ≡ true = grind (arith, nat_tests) in
    rw (opened, closed) (sym (whole_ipv6 _ _ c.in-Ok.ensures))

pub returns-in-Err : goal.returns-in-Err
returns-in-Err c =
    let host = c.args.host.now in
    let opened : (get_or host 0 0 == 91) ≡ true = grind (arith, nat_tests) in
    let closed : (get_or host (length host - 1) 0 == 93) ≡ true = grind (arith, nat_tests) in
    rw (opened, closed) (sym (no_ipv6 _ (λ segments. c.in-Err.ensures (record { segments = segments }))))
