-- A line with its inverse, as the parts have it.
use Rattle.std.specs.Prelude.{ℕ}
use Rattle.cpu.specs.declared.signals.Line.{Line}

abbrev pub both : Line → ℕ × ℕ
both l = (l.0, l.1)
