-- What the comparison answers, as the call does.
use Rattle.std.proofs.Common.{ℕ, List, Ok, Err}
use Rattle.std.specs.Prelude.{Result, OnOk}
use Rattle.aol_model_types.specs.declared.document.Model.{Model}
use Rattle.aol_flat.specs.Accept.{IsSound}
use Rattle.aol_flat.specs.Keep.{AreComparable, Keeps, KeepsOutputs}
use Rattle.aol_flat.specs.Limits.{IsBounded}
use Rattle.aol_flat.proofs.KeptAccepted.{kept_models_agree}
use Rattle.aol_equiv.specs.declared.compare.Sides.{Sides}
use Rattle.aol_equiv.specs.declared.lost.Lost.{Lost}
use Rattle.aol_equiv.specs.Compared.{EndsAll}

pub kept_ok : (s : Sides) (r : Result (Unit {0}) Lost) → EndsAll s r → OnOk r (Keeps s.old.now.model s.new.now.model s.old_of.now)
kept_ok s (Ok done) h = h
kept_ok s (Err e) h = tt

pub kept_agrees : (old new : Model) (old_of : List ℕ) → IsSound old → IsSound new → IsBounded new → AreComparable old new old_of → (r : Result (Unit {0}) Lost) → OnOk r (Keeps old new old_of) → OnOk r (KeepsOutputs old new)
kept_agrees old new old_of sound_old sound bounded comparable (Ok done) h = kept_models_agree old new old_of sound_old sound bounded comparable h
kept_agrees old new old_of sound_old sound bounded comparable (Err e) h = tt
