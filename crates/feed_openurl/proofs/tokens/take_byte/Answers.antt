use Rattle.std.proofs.Common.{◌++◌, [], ap, ◌∙◌, refl}
use Rattle.std.specs.List.{cons_option}
use Rattle.feed_openurl.specs.Dates.{token_of}
use Rattle.feed_openurl.proofs.Parts.{token_begun_by, token_joined_by}
use Rattle.feed_openurl.proofs.tokens.take_byte.Goals as goal

pub returns-then-joins : goal.returns-then-joins
returns-then-joins c =
    token_joined_by c.args.tokens.now.items c.args.tokens.now.items c.args.run.now.items c.push.new.self.items c.args.byte (cc) refl c.in_ok-push.ensures.items

pub returns : goal.returns
returns c =
    token_begun_by c.args.tokens.now.items c.push_token.new.tokens.items c.args.run.now.items c.clear.new.self.items c.push-2.new.self.items c.args.byte (cc)
    (c.in_ok-push_token.ensures ∙ ap (λ r. c.args.tokens.now.items ++ cons_option (token_of r) []) c.deref-2.ensures.value)
    c.clear.ensures.items c.in_ok-push-2.ensures.items
