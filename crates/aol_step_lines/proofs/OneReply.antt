-- A list of steps makes one model, or has one reply.
use Rattle.std.proofs.Common.{◌≡◌, ℕ, suc, ◌+◌, ◌<◌, List, [], ◌∷◌, ◌++◌, length, codes, decimal, Option, Some, None, refl, sym, ◌∙◌, ap, subst, slice_get, arith, ◌⊎◌, inl, inr}
use Rattle.std.specs.List.{IsAmong}
use Rattle.std.proofs.lemmas.Option.{none-some, same_Some}
use Rattle.std.proofs.lemmas.Bool.{cases_order}
use Rattle.aol_model_types.specs.declared.document.Model.{Model}
use Rattle.aol_model_types.specs.declared.job.Step.{Step}
use Rattle.aol_flat.specs.Keep.{EndsAt, reading_before, ReadingIsKept}
use Rattle.aol_flat.specs.Place.{Element}
use Rattle.aol_flat.specs.Reads.{Reading, readings, IsFirstFailing}
use Rattle.aol_flat.specs.Targets.{Twice, first_twice, IsSingleAssignment}
use Rattle.aol_flat.specs.declared.view.End.{End}
use Rattle.aol_flat.proofs.Among.{get_among}
use Rattle.aol_flat.proofs.Twice.{twice_is_found}
use Rattle.aol_change.specs.Change.{Stepped, Changed, Refused}
use Rattle.aol_change.specs.declared.refused.StepRefused.{StepRefused}
use Rattle.aol_transform.specs.Steps.{proposed, step_origin, IsProposed, IsStepMap, IsKept, StepsTo, none, more}
use Rattle.aol_lines.specs.declared.status.StatusKind.TheVariants.{Transform}
use Rattle.aol_lines.specs.Refused.{reading_words, twice_words}
use Rattle.aol_lines.specs.Reply.{ReplyOf, refusal}
use Rattle.aol_step_lines.specs.Words.{why_words, end_words}
use Rattle.aol_step_lines.specs.StepsReply.{IsLost, StepReply, unbuilt, no_model, written_twice, lost, StepsReply}
use Rattle.aol_step_lines.specs.Laws.{OneModelMade, KeptHaveNoReply, OneStepsReply}
use Rattle.aol_step_lines.proofs.KeptReads.{all_kept}
use Rattle.aol_step_lines.proofs.OneMap.{one_map}

found_one : {A : Type 0} (o : Option A) (a b : A) → o ≡ Some a → o ≡ Some b → a ≡ b
found_one o a b e f = same_Some a b (sym e ∙ f)

not_both : {A : Type 0} (o : Option A) (a : A) → o ≡ None → o ≡ Some a → ⊥
not_both o a e f = none-some a (sym e ∙ f)

-- ---- what a step makes

-- a step makes one model
made_one : (m : Model) (s : Step) (a b : Model) → IsProposed m s a → IsProposed m s b → a ≡ b
made_one m s a b p q = let same : Some (Changed a) ≡ Some (Changed b) = sym p.makes ∙ q.makes in cc

-- where it makes one it has no cause
made_or_not : (m : Model) (s : Step) (a : Model) (why : StepRefused) → IsProposed m s a → proposed m s ≡ Some (Refused why) → ⊥
made_or_not m s a why p h = let same : Some (Changed a) ≡ Some (Refused why) = sym p.makes ∙ h in cc

none_twice : (m : Model) → IsSingleAssignment m → (t : Twice) → first_twice m ≡ Some t → ⊥
none_twice m single t h = not_both (first_twice m) t ((twice_is_found m).1 single) h

-- the maps of two steps to one model
same_map : (m : Model) (s : Step) (a b : Model) (first second : List ℕ) → a ≡ b → IsStepMap m s a first → IsStepMap m s b second → first ≡ second
same_map m s a b first second is p q =
    let moved : IsStepMap m s a second = subst (λ x. IsStepMap m s x second) (sym is) q in
    one_map m a (step_origin m s a) first second p.alike p.map moved.map

-- ---- kept, or not

kept_not_lost : (m : Model) (s : Step) (a b : Model) (old_of : List ℕ) (r : Reading) (required : End) → IsKept m s a → IsProposed m s b → IsStepMap m s b old_of → IsLost m b old_of r required → ⊥
kept_not_lost m s a b old_of r required k p map l =
    let same : a ≡ b = made_one m s a b k.proposed p in
    let maps : k.old_of ≡ old_of = same_map m s a b k.old_of old_of same k.map map in
    let kept : ReadingIsKept m a k.old_of r =
    all_kept m a k.old_of k.proposed.sound k.map.alike k.keeps r (subst (λ x. IsAmong (readings x) r) (sym same) (get_among (readings b) l.first.first.number r l.first.first.at)) in
    l.first.first.fails (subst (λ x. ReadingIsKept m b x r) maps (subst (λ x. ReadingIsKept m x k.old_of r) same kept))

kept_or_not : (m : Model) (number : ℕ) (s : Step) (a : Model) (r : ReplyOf) → IsKept m s a → StepReply m number s r → ⊥
kept_or_not m number s a _ k (unbuilt h) = not_both (proposed m s) (Changed a) h k.proposed.makes
kept_or_not m number s a _ k (no_model why h some) = made_or_not m s a why k.proposed h
kept_or_not m number s a _ k (written_twice b p t h) = none_twice b (subst IsSingleAssignment (made_one m s a b k.proposed p) k.keeps.single) t h
kept_or_not m number s a _ k (lost b p single old_of map r required l) = kept_not_lost m s a b old_of r required k p map l

-- ---- one reply to a step

first_one : {X : Type 0} (P : X → Type 0) (xs : List X) (x y : X) → IsFirstFailing P xs x → IsFirstFailing P xs y → x ≡ y
first_one P xs x y a b = told (cases_order a.number b.number)
  where
    told : (a.number ≡ b.number) ⊎ ((a.number < b.number) ⊎ (b.number < a.number)) → x ≡ y
    told (inl e) = found_one (slice_get xs a.number) x y a.at (ap (slice_get xs) e ∙ b.at)
    told (inr (inl l)) = absurd (a.fails (b.before a.number x l a.at))
    told (inr (inr l)) = absurd (b.fails (a.before b.number y l b.at))

-- what is lost is one
lost_one : (m next : Model) (old_of : List ℕ) (r q : Reading) (e f : End) → IsLost m next old_of r e → IsLost m next old_of q f → (r ≡ q) × (e ≡ f)
lost_one m next old_of r q e f a b =
    let one : r ≡ q = first_one (ReadingIsKept m next old_of) (readings next) r q a.first.first b.first.first in
    let P : Reading → Type 0 = λ x. reading_before m old_of x ≡ Some b.first.old_element in
    let element : a.first.old_element ≡ b.first.old_element = found_one _ _ _ a.first.same_read (subst P (sym one) b.first.same_read) in
    let Q : Element → Type 0 = λ x. EndsAt m x e in
    (one, b.only e (subst Q element a.first.ends))

-- the line of a read that is lost
abbrev lost_line : Model → ℕ → Model → Reading → End → ReplyOf
lost_line m number next r e = refusal Transform (decimal number ∷ codes "lost" ∷ (reading_words next r.reader r.port r.rank ++ codes "needs" ∷ end_words m e))

reply_one : (m : Model) (number : ℕ) (s : Step) (r q : ReplyOf) → StepReply m number s r → StepReply m number s q → r ≡ q
reply_one m number s _ _ (unbuilt h) (unbuilt g) = refl
reply_one m number s _ _ (unbuilt h) (no_model why g some) = absurd (not_both (proposed m s) (Refused why) h g)
reply_one m number s _ _ (unbuilt h) (written_twice b p t g) = absurd (not_both (proposed m s) (Changed b) h p.makes)
reply_one m number s _ _ (unbuilt h) (lost b p single old_of map r e l) = absurd (not_both (proposed m s) (Changed b) h p.makes)
reply_one m number s _ _ (no_model why h some) (unbuilt g) = absurd (not_both (proposed m s) (Refused why) g h)
reply_one m number s _ _ (no_model why h some) (no_model other g any) =
    let same : Some (Refused why) ≡ Some (Refused other) = sym h ∙ g in
    let one : why ≡ other = cc in
    ap (λ w. refusal Transform (decimal number ∷ why_words w)) one
reply_one m number s _ _ (no_model why h some) (written_twice b p t g) = absurd (made_or_not m s b why p h)
reply_one m number s _ _ (no_model why h some) (lost b p single old_of map r e l) = absurd (made_or_not m s b why p h)
reply_one m number s _ _ (written_twice a p t h) (unbuilt g) = absurd (not_both (proposed m s) (Changed a) g p.makes)
reply_one m number s _ _ (written_twice a p t h) (no_model why g some) = absurd (made_or_not m s a why p g)
reply_one m number s _ _ (written_twice a p t h) (written_twice b o u g) =
    let same : a ≡ b = made_one m s a b p o in
    let one : t ≡ u = found_one (first_twice a) t u h (ap first_twice same ∙ g) in
    twice a b same t u one
  where
    twice : (a b : Model) → a ≡ b → (t u : Twice) → t ≡ u → refusal Transform (decimal number ∷ codes "twice" ∷ twice_words a t) ≡ refusal Transform (decimal number ∷ codes "twice" ∷ twice_words b u)
    twice a b x t u y = rw (x, y) refl
reply_one m number s _ _ (written_twice a p t h) (lost b o single old_of map r e l) = absurd (none_twice a (subst IsSingleAssignment (made_one m s b a o p) single) t h)
reply_one m number s _ _ (lost a p single old_of map r e l) (unbuilt g) = absurd (not_both (proposed m s) (Changed a) g p.makes)
reply_one m number s _ _ (lost a p single old_of map r e l) (no_model why g some) = absurd (made_or_not m s a why p g)
reply_one m number s _ _ (lost a p single old_of map r e l) (written_twice b o t g) = absurd (none_twice b (subst IsSingleAssignment (made_one m s a b p o) single) t g)
reply_one m number s _ _ (lost a p single old_of map r e l) (lost b o alone others other q f k) =
    let same : a ≡ b = made_one m s a b p o in
    let maps : old_of ≡ others = same_map m s a b old_of others same map other in
    let moved : IsLost m a old_of q f = subst (λ x. IsLost m x old_of q f) (sym same) (subst (λ x. IsLost m b x q f) (sym maps) k) in
    let both = lost_one m a old_of r q e f l moved in
    subst (λ x. lost_line m number a r e ≡ lost_line m number x r e) same refl
    ∙ (subst (λ x. lost_line m number b r e ≡ lost_line m number b x e) both.0 refl ∙ subst (λ x. lost_line m number b q e ≡ lost_line m number b q x) both.1 refl)

-- ---- lists of steps

pub one_model : OneModelMade
one_model m [] _ _ none none = refl
one_model m (s ∷ steps) a b (more {next = n} k rest) (more {next = o} l others) =
    let same : n ≡ o = made_one m s n o k.proposed l.proposed in
    one_model n steps a b rest (subst (λ x. StepsTo x steps b) (sym same) others)

-- the steps that are kept, and the one that is told, by the list
told_one : (m : Model) (before others : List Step) (s t : Step) (after rest : List Step) (a b : Model) (shift : ℕ) (r q : ReplyOf) → before ++ s ∷ after ≡ others ++ t ∷ rest → StepsTo m before a → StepsTo m others b
    → StepReply a (shift + length before) s r → StepReply b (shift + length others) t q → r ≡ q
told_one m [] [] s t after rest _ _ shift r q e none none told other =
    let step : s ≡ t = cc in
    reply_one m (shift + 0) s r q told (subst (λ x. StepReply m (shift + 0) x q) (sym step) other)
told_one m [] (t' ∷ others) s t after rest _ b shift r q e none (more {next = n} k l) told other =
    let step : s ≡ t' = cc in
    absurd (kept_or_not m (shift + 0) s n r (subst (λ x. IsKept m x n) (sym step) k) told)
told_one m (s' ∷ before) [] s t after rest a _ shift r q e (more {next = n} k l) none told other =
    let step : s' ≡ t = cc in
    absurd (kept_or_not m (shift + 0) t n q (subst (λ x. IsKept m x n) step k) other)
told_one m (s' ∷ before) (t' ∷ others) s t after rest a b shift r q e (more {next = n} k l) (more {next = o} h g) told other =
    let step : s' ≡ t' = cc in
    let lists : before ++ s ∷ after ≡ others ++ t ∷ rest = cc in
    let same : n ≡ o = made_one m s' n o k.proposed (subst (λ x. IsKept m x o) (sym step) h).proposed in
    let first : shift + suc (length before) ≡ suc shift + length before = omega arith in
    let second : shift + suc (length others) ≡ suc shift + length others = omega arith in
    told_one n before others s t after rest a b (suc shift) r q lists l (subst (λ x. StepsTo x others b) (sym same) g)
    (subst (λ x. StepReply a x s r) first told) (subst (λ x. StepReply b x t q) second other)

pub one_steps_reply : OneStepsReply
one_steps_reply m steps r q a b =
    let first : length a.before ≡ 0 + length a.before = omega arith in
    let second : length b.before ≡ 0 + length b.before = omega arith in
    told_one m a.before b.before a.step b.step a.after b.after a.made b.made 0 r q (sym a.list ∙ b.list) a.kept b.kept (subst (λ n. StepReply a.made n a.step r) first a.told) (subst (λ n. StepReply b.made n b.step q) second b.told)

-- where all are kept none is told
kept_told : (m : Model) (steps before : List Step) (s : Step) (after : List Step) (last a : Model) (number : ℕ) (r : ReplyOf) → steps ≡ before ++ s ∷ after → StepsTo m steps last → StepsTo m before a → StepReply a number s r → ⊥
kept_told m [] [] s after last a number r e h none told = cc
kept_told m [] (x ∷ before) s after last a number r e h k told = cc
kept_told m (t ∷ steps) [] s after last _ number r e (more {next = n} k h) none told =
    let step : t ≡ s = cc in
    kept_or_not m number s n r (subst (λ x. IsKept m x n) step k) told
kept_told m (t ∷ steps) (u ∷ before) s after last a number r e (more {next = n} k h) (more {next = o} l g) told =
    let step : t ≡ u = cc in
    let lists : steps ≡ before ++ s ∷ after = cc in
    let same : n ≡ o = made_one m t n o k.proposed (subst (λ x. IsKept m x o) (sym step) l).proposed in
    kept_told n steps before s after last a number r lists h (subst (λ x. StepsTo x before a) (sym same) g) told

pub kept_have_no_reply : KeptHaveNoReply
kept_have_no_reply m steps last r kept told = kept_told m steps told.before told.step told.after last told.made (length told.before) r told.list kept told.kept told.told
