-- What the exported chart functions hand back and leave: the struct that is given, every place and every byte; all values are 0 where refused.
use Rattle.std.specs.Prelude.{ℕ, Bool, cond, List, ℤ, pos, Result, Ok, Err}
use Rattle.abi_answers.specs.Given.{accepted, refused}
use Rattle.abi_answers.specs.declared.GrainAnswer.{GrainAnswer}
use Rattle.chart_rules.specs.Refusals.{number_of}
use Rattle.chart_rules.specs.Calls.{check_of}
use Rattle.chart_rules.specs.InPlace.{open_in, chart_set_in}
use Rattle.chart_rules.specs.Places.{chart_at}
use Rattle.chart_rules.specs.declared.Refusal.{Refusal}
use Rattle.chart_rules.specs.declared.Charted.{Charted}
use Rattle.chart_rules.specs.Judging.{text_number}
use Rattle.chart_rules.specs.Output.{chart_text_of}
use Rattle.chart_rules.specs.declared.RefusedText.{RefusedText}
use Rattle.abi_chart.specs.declared.GrainCharted.{GrainCharted}
use Rattle.abi_chart.specs.declared.GrainWritten.{GrainWritten}

-- ---- opening
abbrev pub open_given : Result (Unit {0}) Refusal → GrainAnswer
open_given (Ok done) = accepted
open_given (Err r) = refused (number_of r)

pub record OpenLeft : Type 0 where
  pub given : GrainAnswer
  pub places : List ℤ

unfoldable pub chart_open_call : ℕ → OpenLeft
chart_open_call row = record { given = open_given (open_in row).answer; places = (open_in row).places }

-- ---- a check
abbrev pub check_given : Result (Unit {0}) Refusal → GrainAnswer
check_given (Ok done) = accepted
check_given (Err r) = refused (number_of r)

unfoldable pub chart_check_call : List ℤ → GrainAnswer
chart_check_call words = check_given (check_of (chart_at words))

-- ---- one set

-- 1 or 0
abbrev pub flag_of : Bool → ℕ
flag_of b = cond b 1 0

abbrev pub set_refused : ℕ → GrainCharted
set_refused number =
    record { accepted = 0; number = number; week = 0; count = 0; plot = pos 0; range = 0; al = 0; tl = 0; run = 0; ral = 0; rtl = 0; length = 0 }

-- the output line's nine fields and its length
abbrev pub set_given : Result Charted Refusal → GrainCharted
set_given (Ok charted) =
    let v = charted.values in
    record {
      accepted = 1;
      number = 0;
      week = v.week;
      count = v.count;
      plot = v.plot;
      range = v.range;
      al = flag_of v.al;
      tl = flag_of v.tl;
      run = flag_of v.run;
      ral = flag_of v.ral;
      rtl = flag_of v.rtl;
      length = charted.length;
    }
set_given (Err r) = set_refused (number_of r)

pub record SetLeft : Type 0 where
  pub given : GrainCharted
  pub places : List ℤ
  pub line : List ℕ

unfoldable pub chart_set_call : List ℤ → ℕ → List ℤ → List ℕ → SetLeft
chart_set_call words week numbers line =
    let r = chart_set_in words week numbers line in
    record { given = set_given r.answer; places = r.places; line = r.buffer }

-- ---- a whole text: the length of its output; or the refusal and its text line
abbrev pub text_given : Result ℕ RefusedText → GrainWritten
text_given (Ok n) = record { accepted = 1; number = 0; line = 0; length = n }
text_given (Err r) = record { accepted = 0; number = text_number r.refusal; line = r.line; length = 0 }

pub record TextLeft : Type 0 where
  pub given : GrainWritten
  pub out : List ℕ

unfoldable pub chart_text_call : List ℕ → List ℕ → TextLeft
chart_text_call text out =
    let r = chart_text_of text out in
    record { given = text_given r.answer; out = r.buffer }

-- ---- the lengths that an answer carries, for the code that hands them on in 32 bits
abbrev pub line_length : Result Charted Refusal → ℕ
line_length (Ok charted) = charted.length
line_length (Err r) = 0

abbrev pub text_length : Result ℕ RefusedText → ℕ
text_length (Ok n) = n
text_length (Err r) = 0
