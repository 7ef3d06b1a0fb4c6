use Rattle.std.proofs.Common.{Ok, Err, refl}
use Rattle.std.proofs.lemmas.Result.{err_from_is_err_and}
use Rattle.compiler.specs.declared.BuildError.TheVariants as B
use Rattle.compiler.specs.Promise.{why}
use Rattle.compiler.proofs.Builds.{built, image_made, refused}
use Rattle.compiler.proofs.build.Goals as goal

pub returns-then-image-ne-MEMORY_SIZE : goal.returns-then-image-ne-MEMORY_SIZE
returns-then-image-ne-MEMORY_SIZE c = built c.args.text.now c.args.image.now c.args.image.now (Err B.Short) c.if-image-ne-MEMORY_SIZE.true refl

pub returns-in_err-parsed : goal.returns-in_err-parsed
returns-in_err-parsed c =
    let p = err_from_is_err_and c.from_residual.result c.from_residual.ensures.1 in
    rw (p.1, p.2) (built c.args.text.now c.args.image.now c.args.image.now (Err (why _)) (refused c.args.text.now c.args.image.now _ c.if-image-ne-MEMORY_SIZE.false c.in_err-parsed.ensures) refl)

pub returns : goal.returns
returns c =
    let l = c.in_ok-parsed.ensures in
    built c.args.text.now c.args.image.now c.assemble.new.image (Ok _) (c.if-image-ne-MEMORY_SIZE.false, (l.program, l.reads, l.held.within)) (image_made c.args.text.now c.assemble.new.image l.program l.reads l.held.within (c.assemble.ensures l.program l.held))
