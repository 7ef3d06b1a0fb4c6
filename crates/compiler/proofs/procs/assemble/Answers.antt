use Rattle.std.proofs.Common.{ℕ, List, length, ap, ◌∙◌}
use Rattle.codegen.specs.Codegen.{code}
use Rattle.compiler.specs.Writing.{put_all}
use Rattle.compiler.proofs.Whole.{is_image}
use Rattle.compiler.proofs.procs.assemble.Goals as goal

pub returns : goal.returns
returns c = λ g h.
    is_image c.args.parsed.now g (length c.args.image.now) c.emit_program.new.image h c.requires.whole
    (c.emit_program.ensures g h ∙ ap (λ (m : List ℕ). put_all m 0 (code g)) (c.fill.ensures.after (λ y e. e)))
