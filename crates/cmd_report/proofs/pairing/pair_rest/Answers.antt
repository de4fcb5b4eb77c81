use Rattle.std.proofs.Common.{refl}
use Rattle.cmd_report.proofs.pairing.pair_rest.Goals as goal

pub returns : goal.returns
returns c = record {
  rest = c.in_ok-rest.rest;
  rest_paired = c.in_ok-rest.ensures;
  pairs = c.in_ok-append.ensures.items;
  old_left = refl;
  new_left = refl;
}
