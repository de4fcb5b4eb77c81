use Rattle.feed_fetch.proofs.fetch_end.print_name_fault.Goals as goal

pub returns-clause-last : goal.returns-clause-last
returns-clause-last g c = λ whole. (c.print.new.self, c.print_status.ensures.line whole)
