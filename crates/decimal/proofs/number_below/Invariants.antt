-- What was read and what is left make the whole number.
use Rattle.std.proofs.Common.{◌<◌, drop}
use Rattle.decimal.proofs.Digits.{Left}
use Rattle.decimal.proofs.number_below.Given as goal

abbrev pub invariant-loop-c : goal.invariant-loop-c
invariant-loop-c l = (l.n < l.bound) × Left l.text (drop l.c-index l.text) l.n
