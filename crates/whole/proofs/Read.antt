-- What a machine reads back from an i32's bits: the integer, where it fits (`to_z-of_z`).
use lib.IntN.{ℤ}
use mir.Syntax.{w32}
use mir.Val.{to_z, of_z}

abbrev pub rd : ℤ → ℤ
rd z = to_z w32 (of_z w32 z)
