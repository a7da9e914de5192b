-- Going over the pairs of a tiler, and marking their points.
use Rattle.std.proofs.Common.{◌≡◌, ℕ, zero, suc, ◌+◌, ◌<◌, ◌≤◌, ◌≢◌, List, [], ◌∷◌, ◌++◌, length, map, take, drop, get_or, Bool, true, false, cond, is_some, Option, Some, None, slice_get, sym, ◌∙◌, ap, refl, arith, subst}
use Rattle.std.specs.Prelude.{slice_set}
use Rattle.std.proofs.lemmas.List.{append_assoc, append-nil, get_or-set_same, get_or-set_other, length-set}
use Rattle.aol_shape.specs.Lists.{same}
use Rattle.aol_shape.specs.Shape.{IsPointOf, size, rank, point_at}
use Rattle.aol_shape.proofs.Points.{rank-lt-size, point_at-rank, point_at-is, rank-point_at}
use Rattle.aol_flat.specs.Targets.{Writing, earlier_writing, first_repeat}
use Rattle.aol_flat.proofs.Names.{same-self, same-equal}
use Rattle.aol_assign.specs.declared.marks.Hit.{Hit}
use Rattle.aol_assign.specs.Marks.{AreMarks, MarksOn, IsEarliest}
use Rattle.aol_assign.proofs.WritingRanks.{written_rank}

-- ---- the next of a list

-- where numbers of the rest are known, the next member is there
pub record IsNext {X : Type 0} (f : X → ℕ) (xs : List X) (n a : ℕ) (rest : List ℕ) : Type 0 where
  pub member : X
  pub within : n < length xs
  pub at : slice_get xs n ≡ Some member
  pub value : f member ≡ a
  pub left : drop n xs ≡ member ∷ drop (n + 1) xs
  pub done : take (n + 1) xs ≡ take n xs ++ member ∷ []
  pub rest_is : map f (drop (n + 1) xs) ≡ rest

pub next_member : {X : Type 0} (f : X → ℕ) (xs : List X) (n a : ℕ) (rest : List ℕ) → map f (drop n xs) ≡ a ∷ rest → IsNext f xs n a rest
next_member f [] zero a rest h = cc
next_member f [] (suc n) a rest h = cc
next_member f (x ∷ xs) zero a rest h =
    let first : f x ≡ a = cc in
    let more : map f xs ≡ rest = cc in
    record { member = x; within = omega arith; at = refl; value = first; left = refl; done = refl; rest_is = more }
next_member f (x ∷ xs) (suc n) a rest h =
    let r = next_member f xs n a rest h in
    let one : suc n + 1 ≡ suc (n + 1) = omega arith in
    record {
      member = r.member;
      within = omega (arith, r.within);
      at = r.at;
      value = r.value;
      left = r.left ∙ ap (λ k. r.member ∷ drop k (x ∷ xs)) (sym one);
      done = ap (λ k. take k (x ∷ xs)) one ∙ ap (λ ys. x ∷ ys) r.done;
      rest_is = ap (λ k. map f (drop k (x ∷ xs))) one ∙ r.rest_is;
    }

-- ---- earlier writings

-- one more after some
pub earlier_more : (seen : List Writing) (w : Writing) (x : List ℕ) → is_some (earlier_writing (seen ++ w ∷ []) x) ≡ cond (is_some (earlier_writing seen x)) true (same w.1 x)
earlier_more [] w x = go (same w.1 x)
  where
    go : (b : Bool) → is_some (cond b (Some w) None) ≡ b
    go true = refl
    go false = refl
earlier_more (v ∷ seen) w x = go (same v.1 x) (earlier_more seen w x)
  where
    go : (b : Bool) → is_some (earlier_writing (seen ++ w ∷ []) x) ≡ cond (is_some (earlier_writing seen x)) true (same w.1 x)
        → is_some (cond b (Some v) (earlier_writing (seen ++ w ∷ []) x)) ≡ cond (is_some (cond b (Some v) (earlier_writing seen x))) true (same w.1 x)
    go true h = refl
    go false h = h

-- what is found among some is found among more
pub earlier_front : (seen more : List Writing) (x : List ℕ) (w : Writing) → earlier_writing seen x ≡ Some w → earlier_writing (seen ++ more) x ≡ Some w
earlier_front [] more x w h = cc
earlier_front (v ∷ seen) more x w h = go (same v.1 x) h (earlier_front seen more x w)
  where
    go : (b : Bool) → cond b (Some v) (earlier_writing seen x) ≡ Some w → (earlier_writing seen x ≡ Some w → earlier_writing (seen ++ more) x ≡ Some w) → cond b (Some v) (earlier_writing (seen ++ more) x) ≡ Some w
    go true h later = h
    go false h later = later h

-- where none is found, it is what more have
pub earlier_after : (seen more : List Writing) (x : List ℕ) → earlier_writing seen x ≡ None → earlier_writing (seen ++ more) x ≡ earlier_writing more x
earlier_after [] more x h = refl
earlier_after (v ∷ seen) more x h = go (same v.1 x) h (earlier_after seen more x)
  where
    go : (b : Bool) → cond b (Some v) (earlier_writing seen x) ≡ None → (earlier_writing seen x ≡ None → earlier_writing (seen ++ more) x ≡ earlier_writing more x)
        → cond b (Some v) (earlier_writing (seen ++ more) x) ≡ earlier_writing more x
    go true h later = cc
    go false h later = later h

-- the first writing of a list, where its point is new and where it isn't
repeat_none : (seen ws : List Writing) (w : Writing) → earlier_writing seen w.1 ≡ None → first_repeat seen (w ∷ ws) ≡ first_repeat (seen ++ w ∷ []) ws
repeat_none seen ws w h = ap (λ o. elim o [ Some before ↦ Some (before, w) | None ↦ first_repeat (seen ++ w ∷ []) ws ]) h

repeat_some : (seen ws : List Writing) (w before : Writing) → earlier_writing seen w.1 ≡ Some before → first_repeat seen (w ∷ ws) ≡ Some (before, w)
repeat_some seen ws w before h = ap (λ o. elim o [ Some before ↦ Some (before, w) | None ↦ first_repeat (seen ++ w ∷ []) ws ]) h

-- ---- marks

-- points with one rank are one
one_point : (array x y : List ℕ) → IsPointOf array x → IsPointOf array y → rank array x ≡ rank array y → x ≡ y
one_point array x y a b e = sym (point_at-rank array x a) ∙ (ap (point_at array) e ∙ point_at-rank array y b)

same_no : (x y : List ℕ) → x ≢ y → same x y ≡ false
same_no x y ne = go (same x y) refl
  where
    go : (b : Bool) → same x y ≡ b → same x y ≡ false
    go true e = absurd (ne (same-equal x y e))
    go false e = e

-- at first none is marked
pub none_marked : (array : List ℕ) (marks : List Bool) → ((i : ℕ) → i < size array → get_or marks i false ≡ false) → AreMarks array [] marks
none_marked array marks h x inside = h (rank array x) (rank-lt-size array x inside)

-- one more is marked
pub one_marked : (array : List ℕ) (seen : List Writing) (w : Writing) (marks : List Bool) → length marks ≡ size array → IsPointOf array w.1 → AreMarks array seen marks
    → AreMarks array (seen ++ w ∷ []) (slice_set marks (rank array w.1) true)
one_marked array seen w marks room inside marked x at = go (same w.1 x) refl
  where
    within : rank array w.1 < length marks
    within = let f : rank array w.1 < size array = rank-lt-size array w.1 inside in omega (arith, f, room)

    go : (b : Bool) → same w.1 x ≡ b → get_or (slice_set marks (rank array w.1) true) (rank array x) false ≡ is_some (earlier_writing (seen ++ w ∷ []) x)
    go true e =
        let point : w.1 ≡ x = same-equal w.1 x e in
        let found : is_some (earlier_writing (seen ++ w ∷ []) x) ≡ true = earlier_more seen w x ∙ (ap (λ b. cond (is_some (earlier_writing seen x)) true b) e ∙ either_way (is_some (earlier_writing seen x))) in
        ap (λ y. get_or (slice_set marks (rank array w.1) true) (rank array y) false) (sym point) ∙ (get_or-set_same marks (rank array w.1) true false within ∙ sym found)
      where
        either_way : (b : Bool) → cond b true true ≡ true
        either_way true = refl
        either_way false = refl
    go false e =
        let apart : rank array x ≢ rank array w.1 = λ k. let point : w.1 ≡ x = one_point array w.1 x inside at (sym k) in let no : false ≡ true = sym e ∙ (ap (λ y. same y x) point ∙ same-self x) in cc in
        let still : is_some (earlier_writing (seen ++ w ∷ []) x) ≡ is_some (earlier_writing seen x) = earlier_more seen w x ∙ (ap (λ b. cond (is_some (earlier_writing seen x)) true b) e ∙ itself (is_some (earlier_writing seen x))) in
        get_or-set_other marks (rank array w.1) (rank array x) true false apart ∙ (marked x at ∙ sym still)
      where
        itself : (b : Bool) → cond b true false ≡ b
        itself true = refl
        itself false = refl

-- ---- going over the writings of one tiler

-- so many writings are gone over, and their points were new
pub record HasMarked (array : List ℕ) (ws : List Writing) (old : List Bool) (number : ℕ) (walker : List ℕ) (marks : List Bool) : Type 0 where
  pub within : number ≤ length ws
  pub room : length marks ≡ size array
  pub to_come : map (written_rank array) (drop number ws) ≡ walker
  pub marked : (seen : List Writing) → AreMarks array seen old → AreMarks array (seen ++ take number ws) marks
  pub none : (seen : List Writing) → AreMarks array seen old → (rest : List Writing) → first_repeat seen (ws ++ rest) ≡ first_repeat (seen ++ take number ws) (drop number ws ++ rest)

-- the writings are of points of the array
abbrev pub AreInside : List ℕ → List Writing → Type 0
AreInside array ws = (n : ℕ) (w : Writing) → slice_get ws n ≡ Some w → IsPointOf array w.1

module _ (array : List ℕ) (ws : List Writing) (old : List Bool) where
  pub marking_begins : (walker : List ℕ) → length old ≡ size array → map (written_rank array) ws ≡ walker → HasMarked array ws old 0 walker old
  marking_begins walker room h =
      let P : List Bool → List Writing → Type 0 = λ marks seen. AreMarks array seen marks in
      record {
        within = omega arith;
        room = room;
        to_come = h;
        marked = λ seen marked. subst (P old) (sym (append-nil seen)) marked;
        none = λ seen marked rest. ap (λ s. first_repeat s (ws ++ rest)) (sym (append-nil seen));
      }

  module _ (inside : AreInside array ws) (number a : ℕ) (now walker : List ℕ) (marks : List Bool) (so_far : HasMarked array ws old number now marks) (given : now ≡ a ∷ walker) where
    here : IsNext (written_rank array) ws number a walker
    here = next_member (written_rank array) ws number a walker (so_far.to_come ∙ given)

    pub address_within : a < size array
    address_within =
        let f : rank array here.member.1 < size array = rank-lt-size array here.member.1 (inside number here.member here.at) in
        let g : rank array here.member.1 ≡ a = here.value in
        omega (arith, f, g)

    pub number_within : number < length ws
    number_within = here.within

    -- whether the point is marked says whether one before has it
    told_by_mark : (seen : List Writing) → AreMarks array seen old → get_or marks a false ≡ is_some (earlier_writing (seen ++ take number ws) here.member.1)
    told_by_mark seen marked =
        ap (λ k. get_or marks k false) (sym here.value) ∙ so_far.marked seen marked here.member.1 (inside number here.member here.at)

    pub marks_more : get_or marks a false ≡ false → HasMarked array ws old (number + 1) walker (slice_set marks a true)
    marks_more new = record {
      within = omega (arith, here.within);
      room = length-set marks a true ∙ so_far.room;
      to_come = here.rest_is;
      marked = λ seen marked.
          let w = here.member in
          let P : List Writing → Type 0 = λ s. AreMarks array s (slice_set marks (rank array w.1) true) in
          let Q : ℕ → Type 0 = λ k. AreMarks array (seen ++ take (number + 1) ws) (slice_set marks k true) in
          let joined : (seen ++ take number ws) ++ w ∷ [] ≡ seen ++ take (number + 1) ws = append_assoc seen (take number ws) (w ∷ []) ∙ ap (λ s. seen ++ s) (sym here.done) in
          subst Q here.value (subst P joined (one_marked array (seen ++ take number ws) w marks so_far.room (inside number w here.at) (so_far.marked seen marked)));
      none = λ seen marked rest.
          let w = here.member in
          let joined : (seen ++ take number ws) ++ w ∷ [] ≡ seen ++ take (number + 1) ws = append_assoc seen (take number ws) (w ∷ []) ∙ ap (λ s. seen ++ s) (sym here.done) in
          let fresh : earlier_writing (seen ++ take number ws) w.1 ≡ None = no_some (earlier_writing (seen ++ take number ws) w.1) (sym (told_by_mark seen marked) ∙ new) in
          so_far.none seen marked rest
          ∙ (ap (λ ys. first_repeat (seen ++ take number ws) (ys ++ rest)) here.left
          ∙ (repeat_none (seen ++ take number ws) (drop (number + 1) ws ++ rest) w fresh
          ∙ ap (λ s. first_repeat s (drop (number + 1) ws ++ rest)) joined));
    }
      where
        no_some : (o : Option Writing) → is_some o ≡ false → o ≡ None
        no_some None h = refl
        no_some (Some x) h = cc

    pub marked_already : get_or marks a false ≡ true → (hit : Hit) → hit.number ≡ number → hit.address ≡ a → (new : List Bool) → MarksOn array ws old new (Some hit)
    marked_already again hit same_number same_address new seen marked =
        let w = here.member in
        let earlier = some_there (earlier_writing (seen ++ take number ws) w.1) (sym (told_by_mark seen marked) ∙ again) in
        record {
          writing = w;
          before = earlier.0;
          at = ap (slice_get ws) same_number ∙ here.at;
          inside = inside number w here.at;
          address = same_address ∙ sym here.value;
          earlier = ap (λ k. earlier_writing (seen ++ take k ws) w.1) same_number ∙ earlier.1;
          first = λ rest.
              so_far.none seen marked rest
              ∙ (ap (λ ys. first_repeat (seen ++ take number ws) (ys ++ rest)) here.left
              ∙ repeat_some (seen ++ take number ws) (drop (number + 1) ws ++ rest) w earlier.0 earlier.1);
        }
      where
        some_there : (o : Option Writing) → is_some o ≡ true → (x : Writing) × (o ≡ Some x)
        some_there None h = cc
        some_there (Some x) h = (x, refl)

  pub marking_ends : (number : ℕ) (now : List ℕ) (marks : List Bool) → HasMarked array ws old number now marks → now ≡ [] → MarksOn array ws old marks None
  marking_ends number now marks so_far given seen marked =
      let none_left : drop number ws ≡ [] = no_more (drop number ws) (so_far.to_come ∙ given) in
      let all : take number ws ≡ ws = all_taken number ws none_left in
      let P : List Writing → Type 0 = λ s. AreMarks array (seen ++ s) marks in
      record {
        marked = subst P all (so_far.marked seen marked);
        none = λ rest. so_far.none seen marked rest ∙ (ap (λ ys. first_repeat (seen ++ take number ws) (ys ++ rest)) none_left ∙ ap (λ s. first_repeat (seen ++ s) rest) all);
      }
    where
      no_more : (ys : List Writing) → map (written_rank array) ys ≡ [] → ys ≡ []
      no_more [] h = refl
      no_more (y ∷ ys) h = cc

      all_taken : (n : ℕ) (ys : List Writing) → drop n ys ≡ [] → take n ys ≡ ys
      all_taken zero [] h = refl
      all_taken zero (y ∷ ys) h = cc
      all_taken (suc n) [] h = refl
      all_taken (suc n) (y ∷ ys) h = ap (λ zs. y ∷ zs) (all_taken n ys h)

-- ---- looking for the first writing of a point

-- so many writings are gone over, and none has the point
pub record HasSought (array : List ℕ) (ws : List Writing) (point : List ℕ) (number : ℕ) (walker : List ℕ) : Type 0 where
  pub within : number ≤ length ws
  pub to_come : map (written_rank array) (drop number ws) ≡ walker
  pub left : earlier_writing ws point ≡ earlier_writing (drop number ws) point

module _ (array : List ℕ) (ws : List Writing) (x : ℕ) (below : x < size array) where
  pub seeking_begins : (walker : List ℕ) → map (written_rank array) ws ≡ walker → HasSought array ws (point_at array x) 0 walker
  seeking_begins walker h = record { within = omega arith; to_come = h; left = refl }

  module _ (inside : AreInside array ws) (number a : ℕ) (now walker : List ℕ) (so_far : HasSought array ws (point_at array x) number now) (given : now ≡ a ∷ walker) where
    sought : IsNext (written_rank array) ws number a walker
    sought = next_member (written_rank array) ws number a walker (so_far.to_come ∙ given)

    pub sought_within : number < length ws
    sought_within = sought.within

    pub seeks_more : (a ≡ x → ⊥) → HasSought array ws (point_at array x) (number + 1) walker
    seeks_more other =
        let w = sought.member in
        let apart : w.1 ≢ point_at array x = λ e. other (sym sought.value ∙ (ap (rank array) e ∙ rank-point_at array x below)) in
        record {
          within = omega (arith, sought.within);
          to_come = sought.rest_is;
          left =
              so_far.left
              ∙ (ap (λ ys. earlier_writing ys (point_at array x)) sought.left
              ∙ ap (λ b. cond b (Some w) (earlier_writing (drop (number + 1) ws) (point_at array x))) (same_no w.1 (point_at array x) apart));
        }

    pub sought_found : a ≡ x → IsEarliest ws (point_at array x) (Some number)
    sought_found same_rank =
        let w = sought.member in
        let point : w.1 ≡ point_at array x =
        one_point array w.1 (point_at array x) (inside number w sought.at) (point_at-is array x below) (sought.value ∙ (same_rank ∙ sym (rank-point_at array x below))) in
        let passes : same w.1 (point_at array x) ≡ true = ap (λ y. same y (point_at array x)) point ∙ same-self (point_at array x) in (
          sought.within,
          so_far.left
              ∙ (ap (λ ys. earlier_writing ys (point_at array x)) sought.left
              ∙ (ap (λ b. cond b (Some w) (earlier_writing (drop (number + 1) ws) (point_at array x))) passes
              ∙ sym sought.at)),
        )

  pub seeking_ends : (number : ℕ) (now : List ℕ) → HasSought array ws (point_at array x) number now → now ≡ [] → IsEarliest ws (point_at array x) None
  seeking_ends number now so_far given =
      let none_left : drop number ws ≡ [] = no_more (drop number ws) (so_far.to_come ∙ given) in
      so_far.left ∙ ap (λ ys. earlier_writing ys (point_at array x)) none_left
    where
      no_more : (ys : List Writing) → map (written_rank array) ys ≡ [] → ys ≡ []
      no_more [] h = refl
      no_more (y ∷ ys) h = cc
