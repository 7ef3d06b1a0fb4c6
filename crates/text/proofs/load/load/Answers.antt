use Rattle.std.proofs.Common.{sym, ◌∙◌, arith}
use Rattle.std.proofs.lemmas.Result.{err_from_is_err_and}
use Rattle.text.specs.Loads.{blank_nodes}
use Rattle.text.proofs.Judging.{missing, judged_stuck}
use Rattle.text.proofs.Loading.{Complete, complete, count_few, procs_stand, nodes_past}
use Rattle.text.proofs.load.load.Goals as goal

pub returns-in_err-reader : goal.returns-in_err-reader
returns-in_err-reader c =
    let p = err_from_is_err_and c.from_residual.result c.from_residual.ensures.1 in
    let m = missing c.read.result c.in_err-reader.field-0.0 c.in_err-reader.ensures.value in
    rw (p.1, p.2, m.1) (judged_stuck c.args.text.now (sym (m.0 ∙ c.read.ensures.reads)))

pub link-requires : goal.link-requires
link-requires c =
    let k : Complete c.args.text.now c.in_ok-reader.reader = complete c.args.text.now c.in_ok-reader.reader c.read.result c.in_ok-reader.ensures.ok_part c.read.ensures.reads c.in_ok-verdict.ensures in
    omega arith

pub tabulate-table-requires : goal.tabulate-table-requires
tabulate-table-requires c =
    let k : Complete c.args.text.now c.in_ok-reader.reader = complete c.args.text.now c.in_ok-reader.reader c.read.result c.in_ok-reader.ensures.ok_part c.read.ensures.reads c.in_ok-verdict.ensures in
    record {
      few = count_few c.args.text.now c.in_ok-reader.reader k;
      stand = (k.program.procs, sym k.knows.count, procs_stand c.args.text.now c.in_ok-reader.reader c.read.result blank_nodes c.read.new.nodes c.link.new.nodes k c.in_ok-reader.ensures.ok_part c.read.array_long c.read.ensures.fills c.link.ensures);
    }

pub returns : goal.returns
returns c =
    let k : Complete c.args.text.now c.in_ok-reader.reader = complete c.args.text.now c.in_ok-reader.reader c.read.result c.in_ok-reader.ensures.ok_part c.read.ensures.reads c.in_ok-verdict.ensures in
    record {
      program = k.program;
      reads = k.reads;
      held = record {
        within = k.within;
        sized = record { globals = k.knows.globals; cells = k.knows.cells; procs = k.knows.count; signs = k.knows.signs };
        holds = c.tabulate-table.ensures.holds k.program.procs (sym k.knows.count) (procs_stand c.args.text.now c.in_ok-reader.reader c.read.result blank_nodes c.read.new.nodes c.link.new.nodes k c.in_ok-reader.ensures.ok_part c.read.array_long c.read.ensures.fills c.link.ensures);
      };
      nodes_past = nodes_past c.args.text.now c.in_ok-reader.reader c.read.result blank_nodes c.read.new.nodes c.link.new.nodes c.in_ok-reader.ensures.ok_part c.read.ensures.fills c.link.ensures;
      entries_past = c.tabulate-table.ensures.others;
    }

pub invariant_of-result : goal.invariant_of-result
invariant_of-result c =
    let k : Complete c.args.text.now c.in_ok-reader.reader = complete c.args.text.now c.in_ok-reader.reader c.read.result c.in_ok-reader.ensures.ok_part c.read.ensures.reads c.in_ok-verdict.ensures in
    record { few = count_few c.args.text.now c.in_ok-reader.reader k }
