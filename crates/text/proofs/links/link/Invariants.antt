use Rattle.text.proofs.Linking.{Half}
use Rattle.text.proofs.links.link.Given as goal

abbrev pub invariant-loop-i : goal.invariant-loop-i
invariant-loop-i l = Half l.initial.nodes l.nodes l.ends l.i l.initial.n
