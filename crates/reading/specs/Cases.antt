-- Worked readings at the edges of the rule and of number 9: a float's pattern, and what is answered.
use Rattle.std.specs.Prelude.{List, [], ◌∷◌, ℕ}
use Rattle.reading.specs.Reading.{Said, hundredths, refused_by}

pub record Case : Type 0 where
  pub bits : ℕ
  pub says : Said

-- just below 0.005, just above; 0.125, an exact half; 100 and the next float
-- 2^−149; minus zero, and the next float below it; the infinities; a NaN
unfoldable pub worked : List Case
worked =
    record { bits = 0x3ba3_d70a; says = hundredths 0 }
    ∷ record { bits = 0x3ba3_d70b; says = hundredths 1 }
    ∷ record { bits = 0x3e00_0000; says = hundredths 13 }
    ∷ record { bits = 0x42c8_0000; says = hundredths 10000 }
    ∷ record { bits = 0x42c8_0001; says = refused_by 9 }
    ∷ record { bits = 0x0000_0001; says = hundredths 0 }
    ∷ record { bits = 0x8000_0000; says = hundredths 0 }
    ∷ record { bits = 0x8000_0001; says = refused_by 9 }
    ∷ record { bits = 0x7f80_0000; says = refused_by 9 }
    ∷ record { bits = 0xff80_0000; says = refused_by 9 }
    ∷ record { bits = 0x7fc0_0000; says = refused_by 9 }
    ∷ []
