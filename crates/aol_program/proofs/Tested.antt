-- From what the tests of a model that is laid out tell to what is answered for it.
use Rattle.std.proofs.Common.{◌≡◌, ℕ, ◌<◌, List, [], ◌∷◌, length, Option, codes, sym, subst}
use Rattle.std.proofs.lemmas.Option.{slice_get_within}
use Rattle.aol_vsl.specs.Text.{shape_text}
use Rattle.aol_model_types.specs.declared.document.Model.{Model}
use Rattle.aol_model_types.specs.Places.{limit_text}
use Rattle.aol_shape.specs.declared.limit.LimitName.{LimitName}
use Rattle.aol_flat.specs.Accept.{IsSound, IsAccepted}
use Rattle.aol_flat.specs.Instance.{instances}
use Rattle.aol_flat.specs.InstanceNeed.{AreLevelsOf, IsFirstInCycle}
use Rattle.aol_flat.specs.Laid.{Laid}
use Rattle.aol_flat.specs.Level.{Reads, AreReads, AreWriters, AreLevels, IsFirstInLoop}
use Rattle.aol_flat.specs.Limits.{IsBounded}
use Rattle.aol_flat.specs.Reads.{AllGiven}
use Rattle.aol_flat.specs.Tables.{IsFirstLimit}
use Rattle.aol_flat.specs.Targets.{IsSingleAssignment}
use Rattle.aol_flat.specs.declared.view.Reader.{Reader}
use Rattle.aol_flat.specs.declared.view.Writer.{Writer}
use Rattle.aol_flat_laws.proofs.AcyclicLevels.{acyclic_is_levelled}
use Rattle.aol_flat_laws.proofs.LevelsBridge.{levels_are_of_model, loops_are_cycles}
use Rattle.aol_assign.specs.Answers.{TwiceIs, UnwrittenIs}
use Rattle.aol_depend.specs.Gather.{AreEntries}
use Rattle.aol_lines.specs.declared.status.StatusKind.TheVariants as statuses
use Rattle.aol_program.specs.ModelAnswer.{ModelRefused, limited, written_twice, unwritten}
use Rattle.aol_lines.specs.Refused.{IsReadBy, reading_words, target_text, writer_words}
use Rattle.aol_lines.specs.Reply.{refusal}

-- the first limit that is passed is told
pub limit_told : (m : Model) (path : List ℕ) (name : LimitName) → IsFirstLimit m path name → ModelRefused m (refusal statuses.Limit (path ∷ limit_text name ∷ []))
limit_told m path name is = subst (λ p. ModelRefused m (refusal statuses.Limit (p ∷ limit_text name ∷ []))) (sym is.path_is) (limited is.node name is.first)

-- ---- what is written twice, and what isn't given

pub twice_told : (m : Model) (path : List ℕ) (part : Option (List ℕ)) (port point : List ℕ) (first second : Writer) → IsBounded m → TwiceIs m path part port point first second
    → ModelRefused m (refusal statuses.Twice (path ∷ target_text part port ∷ shape_text point ∷ codes "first" ∷ writer_words first (codes "second" ∷ writer_words second [])))
twice_told m path part port point first second bounded is = rw (is.same_path, is.same_part, is.same_port, is.same_point, is.same_first, is.same_second) (written_twice bounded is.twice is.is_first)

pub read_told : (m : Model) (reader : Reader) (port point : ℕ) → UnwrittenIs m reader port point → IsReadBy m reader port point
read_told m reader port point u = record { reading = u.reading; number = u.is_first.number; at = u.is_first.at; reader = sym u.same_reader; same_port = sym u.same_port; same_rank = sym u.same_point }

pub unwritten_told : (m : Model) (reader : Reader) (port point : ℕ) → IsBounded m → IsSingleAssignment m → UnwrittenIs m reader port point → ModelRefused m (refusal statuses.Unwritten (reading_words m reader port point))
unwritten_told m reader port point bounded single u = rw (u.same_reader, u.same_port, u.same_point) (unwritten bounded single u.reading u.is_first)

-- ---- levels

module _ (f : Laid) (list : List (Option ℕ)) (writers : AreWriters f list) where
  -- the list of writers names instances alone
  pub entries_told : AreEntries f list
  entries_told = record { many = writers.many; each = λ c j at. let w = (writers.some c j).0 at in slice_get_within (instances f.model) j w.instance w.at }

  module _ (sound : IsSound f.model) (single : IsSingleAssignment f.model) where
    -- the levels are those of the model
    pub levels_told : (level : List ℕ) → ((reads : Reads) × AreReads f reads × AreLevels reads list level) → AreLevelsOf f.model level
    levels_told level h = (levels_are_of_model f h.0 list sound h.1 writers single level).0 h.2

    -- so is the first instance of a loop
    pub cycle_told : (j : ℕ) → ((reads : Reads) × AreReads f reads × IsFirstInLoop reads list j) → IsFirstInCycle f.model j
    cycle_told j h = (loops_are_cycles f h.0 list sound h.1 writers single j).0 h.2

-- an instance of a cycle is one of the model
pub cycle_within : (m : Model) (j : ℕ) → IsFirstInCycle m j → j < length (instances m)
cycle_within m j c = let next = c.in_cycle.goes_on j c.in_cycle.within in slice_get_within (instances m) j next.2.reader next.2.at_reader

-- a model with levels is accepted
pub levelled_accepted : (m : Model) (level : List ℕ) → IsSound m → IsBounded m → IsSingleAssignment m → AllGiven m → AreLevelsOf m level → IsAccepted m
levelled_accepted m level sound bounded single given levels = record { shapes = sound.shapes; limits = bounded; single = single; given = given; acyclic = (acyclic_is_levelled m sound bounded single given).1 (level, levels) }
