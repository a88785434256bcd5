-- A refusal is a layer, a number, a line and a field. Assumes nothing.
use Rattle.std.specs.Prelude.{◌≡◌, ℕ, List, ◌++◌, Ok, Err, codes, decimal, Result}
use Rattle.faults.specs.declared.Layer.{Layer}
use Rattle.faults.specs.declared.Layer.TheVariants.{Field, Link, Rows, Sender, Script, Settings, Run}
use Rattle.faults.specs.declared.Refusal.{Refusal}

-- the name that is printed for a layer
abbrev pub layer_name : Layer → List ℕ
layer_name Field = codes "field"
layer_name Link = codes "link"
layer_name Rows = codes "rows"
layer_name Sender = codes "sender"
layer_name Script = codes "script"
layer_name Settings = codes "settings"
layer_name Run = codes "run"

-- a refusal of a text: where in the text it was found, line and field counted from 1
abbrev pub in_text : Layer → ℕ → ℕ → ℕ → Refusal
in_text l n line f = record { layer = l; number = n; line = line; field = f }

-- any other refusal: line and field are 0
abbrev pub plain : Layer → ℕ → Refusal
plain l n = in_text l n 0 0

-- a refusal in words: its layer and its number
abbrev pub refusal_text : Refusal → List ℕ
refusal_text r = codes "refused by " ++ (layer_name r.layer ++ (codes ", number " ++ decimal r.number))

-- how a call refuses that tests first: what the test refuses is refused so, and what it passes for a later cause only
abbrev pub RefusedBy : {E : Type 0} → Result (Unit {0}) E → (E → Type 0) → E → Type 0
RefusedBy (Ok _) later e = later e
RefusedBy (Err cause) later e = e ≡ cause
