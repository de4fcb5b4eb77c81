use Rattle.std.proofs.Common.{◌∙◌, sym, subst}
use Rattle.feed_openurl.proofs.Valid.{IsLookedUp, looked_up_valid}
use Rattle.feed_openurl.proofs.openurl.OpenUrl.of_pairs.Goals as goal

pub invariant_of-result : goal.invariant_of-result
invariant_of-result c =
    subst IsLookedUp (sym (c.found.view_is ∙ c.in_ok-found.ensures)) (looked_up_valid c.sets_ascend.ensures c.printed_issn_parses.ensures c.printed_isbn_parses.ensures c.args.pairs.now)
