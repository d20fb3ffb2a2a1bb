-- What a refusal speaks of, as its message ends with it.
use Rattle.std.specs.Prelude.{◌≡◌, ℕ, List, [], ◌++◌, ◌==◌, if◌then◌else◌, codes, decimal}
use Rattle.sqlval.specs.declared.fault.Fault.{Fault}
use Rattle.sqlval.specs.declared.fault.Fault.TheVariants.{Damaged, Syntax, NoSuch, Exists, Ambiguous, Raised}

-- the damaged page, if it is known
abbrev pub page_detail : ℕ → List ℕ
page_detail page = if page == 0 then [] else codes ", on page " ++ decimal page

-- the place of a syntax error, a damaged page, a name, or the text that was raised
abbrev pub detail : Fault → List ℕ
detail (Damaged damage page) = page_detail page
detail (Syntax at) = decimal at
detail (NoSuch kind name) = name
detail (Exists name) = name
detail (Ambiguous name) = name
detail (Raised raised) = raised.text
detail fault = []

-- a sentence and the refusal's detail were written after what stood there
pub record HasMessage (fault : Fault) (old new : List ℕ) : Type 0 where
  pub sentence : List ℕ
  pub written : new ≡ (old ++ sentence) ++ detail fault
