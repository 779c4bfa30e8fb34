use Rattle.std.proofs.Common.{codes}
use Rattle.covcombine.proofs.Lines.{on_ok, seven}
use Rattle.covcombine.proofs.messages.put_packed.Goals as goal

pub returns : goal.returns
returns c =
    on_ok c.append-6.result c.append-6.new.self c.put_quoted.new.lines (codes "))") _ c.append-6.ensures.ok
    (seven c.args.lines.now _ c.append.new.self c.in_ok-append.ensures.ok _ c.append-2.new.self c.in_ok-append-2.ensures.ok _ c.append-3.new.self c.in_ok-append-3.ensures.ok
    _ c.append-4.new.self c.in_ok-append-4.ensures.ok _ c.append-5.new.self c.in_ok-append-5.ensures.ok _ c.put_quoted.new.lines c.in_ok-put_quoted.ensures _)
