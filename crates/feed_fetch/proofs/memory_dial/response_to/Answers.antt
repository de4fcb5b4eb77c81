use Rattle.std.proofs.Common.{◌≡◌, Ok, Err, refl}
use Rattle.feed_http_heads.specs.declared.http_fault.HttpFault.TheVariants.{Short}
use Rattle.feed_http.specs.MemoryShelves.{file_named}
use Rattle.feed_fetch.proofs.Serving.{IsServed-outcome, IsServed-unfinished}
use Rattle.feed_fetch.proofs.memory_dial.response_to.Goals as goal

pub returns-in-Ok : goal.returns-in-Ok
returns-in-Ok c =
    IsServed-outcome (file_named c.args.files.now) c.args.text.now c.new-reply.result.items c.serve_one.new.writer.items c.in-Ok.field-0 (Ok c.in-Ok.field-0) refl
    c.new-reply.ensures.items c.in-Ok.ensures.reply

pub returns-in-Err-Short : goal.returns-in-Err-Short
returns-in-Err-Short c =
    let is : c.serve_one.result ≡ Err Short = cc in
    IsServed-unfinished (file_named c.args.files.now) c.args.text.now c.new-reply.result.items c.serve_one.new.writer.items c.serve_one.result is c.serve_one.ensures.reply
