use native.Mathlib.Omega.{arith}
use Rattle.aol_transform.proofs.Agree.{kept_steps_agree}
use Rattle.aol_transform.proofs.SoFar.{refused_at, kept_at, none_yet, all_taken}
use Rattle.aol_transform.proofs.steps.transform.Goals as goal

pub loop-number-init : goal.loop-number-init
loop-number-init c = none_yet c.args.first c.args.steps.now c.requires.accepted c.requires.writers

pub taken-requires : goal.taken-requires
taken-requires c = record { accepted = c.loop-number.invariant.accepted }

pub returns-in-Err-clause-refused : goal.returns-in-Err-clause-refused
returns-in-Err-clause-refused c = refused_at c.loop-number.invariant c.loop-number-test.true c.index-steps-number.is c.in-Err.ensures.refused

pub loop-number-preserved : goal.loop-number-preserved
loop-number-preserved c =
    kept_at c.loop-number.invariant c.loop-number-test.true c.index-steps-number.is c.in-Ok.ensures.kept c.in-Ok.ensures.agrees c.in-Ok.ensures.writers

pub returns-clause-kept : goal.returns-clause-kept
returns-clause-kept c = all_taken c.loop-number.invariant (omega (arith, c.loop-number-test.false))

pub returns-clause-agrees : goal.returns-clause-agrees
returns-clause-agrees c =
    kept_steps_agree c.args.first.flat.model c.loop-number.now.flat.model c.args.steps.now c.model.ensures.flat.sound c.requires.accepted
    (all_taken c.loop-number.invariant (omega (arith, c.loop-number-test.false)))

pub returns-clause-writers : goal.returns-clause-writers
returns-clause-writers c = c.loop-number.invariant.writers
