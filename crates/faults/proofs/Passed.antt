-- An answer by tests one after another: where it is Ok, each test was passed. Assumes nothing.
use Rattle.std.proofs.Common.{◌≡◌, Bool, true, false, cond, Ok, Err, Result, refl}
use Rattle.faults.specs.Refusals.{RefusedBy}

pub passed : {X E : Type 0} (b : Bool) (x : X) (rest : Result X E) (e : E) → Ok x ≡ cond b rest (Err e) → (b ≡ true) × (Ok x ≡ rest)
passed true x rest e ok = (refl, ok)
passed false x rest e ok = cc

-- where a test is passed, what is refused later may be told in other words
pub later : {E : Type 0} (test : Result (Unit {0}) E) (P Q : E → Type 0) (e : E) → (test ≡ Ok tt → P e → Q e) → RefusedBy test P e → RefusedBy test Q e
later (Ok _) P Q e told refused = told refl refused
later (Err _) P Q e told refused = refused

-- a test that is passed refuses nothing
pub passed_later : {E : Type 0} (test : Result (Unit {0}) E) (P : E → Type 0) (e : E) → test ≡ Ok tt → RefusedBy test P e → P e
passed_later (Ok _) P e ok refused = refused
passed_later (Err _) P e ok refused = cc
