-- Walks over lines, each of which may stand at its place.
use Rattle.std.proofs.Common.{◌≡◌, ℕ, suc, ◌+◌, ◌⊎◌, inl, inr, Bool, true, false, cond, List, [], ◌∷◌, ◌++◌, Option, None, Some, length, take, drop, refl, ap, sym, ◌∙◌, arith}
use Rattle.std.proofs.lemmas.Bool.{false≢true}
use Rattle.std.proofs.lemmas.Option.{none-some, same_Some}
use Rattle.std.specs.Option.{option_map_or}
use Rattle.listing.specs.Word.{◌>>=◌}
use Rattle.log_audit.specs.declared.place.Place.{Place}
use Rattle.log_audit.specs.declared.place.Place.TheVariants as place
use Rattle.log_audit.specs.Lines.{bad_from, is_end, next}
use Rattle.log_audit.proofs.LineLemmas.{AreLines}
use Rattle.log_audit.proofs.PlaceLemmas.{next_line}

-- where the lines lead, each of which may stand at its place
abbrev pub walk : Place → List (List ℕ) → Option Place
walk at [] = Some at
walk at (line ∷ lines) = next at line >>= λ after. walk after lines

pub end_is : (at : Place) → is_end at ≡ true → at ≡ place.End
end_is place.Version is = absurd (false≢true is)
end_is place.Uuid is = absurd (false≢true is)
end_is place.Origin is = absurd (false≢true is)
end_is place.Kind is = absurd (false≢true is)
end_is place.Fields is = absurd (false≢true is)
end_is (place.Records fields) is = absurd (false≢true is)
end_is place.End is = refl

-- ---- one line more

-- a walk over one line more has gone on
pub gone : (found : Option Place) (go : Place → Option Place) (last : Place) → (found >>= go) ≡ Some last → (after : Place) × (found ≡ Some after) × (go after ≡ Some last)
gone None go last is = absurd (none-some last is)
gone (Some after) go last is = (after, refl, is)

bind_bind : (found : Option Place) (go on : Place → Option Place) → ((found >>= go) >>= on) ≡ (found >>= (λ after. go after >>= on))
bind_bind None go on = refl
bind_bind (Some after) go on = refl

same_bind : (found : Option Place) (go on : Place → Option Place) → ((after : Place) → go after ≡ on after) → (found >>= go) ≡ (found >>= on)
same_bind None go on same = refl
same_bind (Some after) go on same = same after

pub walk_append : (at : Place) (lines others : List (List ℕ)) → walk at (lines ++ others) ≡ (walk at lines >>= λ after. walk after others)
walk_append at [] others = refl
walk_append at (line ∷ lines) others =
    same_bind (next at line) (λ after. walk after (lines ++ others)) (λ after. walk after lines >>= λ last. walk last others) (λ after. walk_append after lines others)
    ∙ sym (bind_bind (next at line) (λ after. walk after lines) (λ last. walk last others))

-- the lines of a walk are ended
pub walked_lines : (at last : Place) (lines : List (List ℕ)) → walk at lines ≡ Some last → AreLines lines
walked_lines at last [] is = tt
walked_lines at last (line ∷ lines) is =
    let on = gone (next at line) (λ after. walk after lines) last is in
    (next_line at on.0 line on.1, walked_lines on.0 last lines on.2)

-- ---- the bad line of lines

-- where no line is bad, the walk ends
pub passed : (number : ℕ) (at : Place) (lines : List (List ℕ)) → bad_from number at lines ≡ None → walk at lines ≡ Some place.End
unfolding bad_from
passed number at [] is = by (is_end at) refl is
  where
    by : (t : Bool) → is_end at ≡ t → cond t None (Some number) ≡ None → Some at ≡ Some place.End
    by true e none = ap Some (end_is at e)
    by false e none = absurd (none-some number (sym none))
passed number at (line ∷ lines) is = by (λ after. passed (number + 1) after lines) (next at line) refl is
  where
    by : ((after : Place) → bad_from (number + 1) after lines ≡ None → walk after lines ≡ Some place.End) → (to : Option Place) → next at line ≡ to
        → option_map_or (λ after. bad_from (number + 1) after lines) to (Some number) ≡ None → (to >>= λ after. walk after lines) ≡ Some place.End
    by others None e none = absurd (none-some number (sym none))
    by others (Some after) e none = others after none

pub none_bad : (number : ℕ) (at : Place) (lines : List (List ℕ)) → walk at lines ≡ Some place.End → bad_from number at lines ≡ None
unfolding bad_from
none_bad number at [] is = rw (same_Some at place.End is) refl
none_bad number at (line ∷ lines) is =
    let on = gone (next at line) (λ after. walk after lines) place.End is in
    rw on.1 (none_bad (number + 1) on.0 lines on.2)

-- the walk over the first k lines stops here: the lines are out before their end, or the next one may not stand
abbrev pub IsStuck : List (List ℕ) → ℕ → Place → Type 0
IsStuck lines k last = ((k ≡ length lines) × (is_end last ≡ false))
    ⊎ ((line : List ℕ) × (rest : List (List ℕ)) × (drop k lines ≡ line ∷ rest) × (next last line ≡ None))

pub found : (number : ℕ) (at : Place) (lines : List (List ℕ)) (n : ℕ) → bad_from number at lines ≡ Some n → (k : ℕ) × (last : Place) × (n ≡ number + k) × (walk at (take k lines) ≡ Some last) × IsStuck lines k last
unfolding bad_from
found number at [] n is = by (is_end at) refl is
  where
    by : (t : Bool) → is_end at ≡ t → cond t None (Some number) ≡ Some n → (k : ℕ) × (last : Place) × (n ≡ number + k) × (walk at (take k []) ≡ Some last) × IsStuck [] k last
    by true e some = absurd (none-some n some)
    by false e some = (0, at, omega (arith, same_Some number n some), refl, inl (refl, e))
found number at (line ∷ lines) n is = by (λ after. found (number + 1) after lines n) (next at line) refl is
  where
    stuck : (k : ℕ) (last : Place) → IsStuck lines k last → IsStuck (line ∷ lines) (suc k) last
    stuck k last (inl out) = inl (ap suc out.0, out.1)
    stuck k last (inr refused) = inr refused

    by : ((after : Place) → bad_from (number + 1) after lines ≡ Some n → (k : ℕ) × (last : Place) × (n ≡ number + 1 + k) × (walk after (take k lines) ≡ Some last) × IsStuck lines k last)
        → (to : Option Place) → next at line ≡ to → option_map_or (λ after. bad_from (number + 1) after lines) to (Some number) ≡ Some n
        → (k : ℕ) × (last : Place) × (n ≡ number + k) × (walk at (take k (line ∷ lines)) ≡ Some last) × IsStuck (line ∷ lines) k last
    by others None e some = (0, at, omega (arith, same_Some number n some), refl, inr (line, lines, refl, e))
    by others (Some after) e some =
        let on = others after some in
        (suc on.0, on.1, omega (arith, on.2), rw e on.3, stuck on.0 on.1 on.4)

-- a line that may not stand stops each walk over it
pub stopped : (at last : Place) (lines : List (List ℕ)) (line : List ℕ) (rest : List (List ℕ)) → walk at lines ≡ Some last → next last line ≡ None → walk at (lines ++ line ∷ rest) ≡ None
stopped at last lines line rest is none = walk_append at lines (line ∷ rest) ∙ rw (is, none) refl
