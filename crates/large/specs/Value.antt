-- The number that two words stand for, and the sizes that are compared with them.
use Rattle.std.specs.Prelude.{ℕ, ◌+◌, ◌*◌, ◌^◌}
use Rattle.large.specs.declared.Large.{Large}

-- high * 2^64 + low
abbrev pub value_of : Large → ℕ
value_of n = n.high * 2 ^ 64 + n.low

-- what each factor of a comparison may be: c and t of the sheet are below 2^43, in half units below 2^44
abbrev pub roomy : ℕ
roomy = 2 ^ 46
