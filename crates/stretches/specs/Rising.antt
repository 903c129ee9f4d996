-- A number that rises with the numbers of its stretch.
use Rattle.std.specs.Prelude.{◌+◌, ◌<◌, ◌^◌}
use Rattle.stretches.specs.declared.rising.Rising.{Rising}
use Rattle.stretches.specs.declared.says.Says.{Ghosts}

-- how it goes on: it is one more at each next number, and below 2^64
abbrev pub rising : Ghosts Rising
rising = record { after = λ v n. record { 0 = v.0 + n }; lasts = λ v n. v.0 + n < 2 ^ 64 }
