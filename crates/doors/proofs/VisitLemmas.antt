-- Connections that are served one after the other.
use Rattle.std.proofs.Common.{◌≡◌, ◌≢◌, ℕ, zero, suc, ◌+◌, ◌-◌, ◌<◌, ◌≤◌, List, [], ◌∷◌, ◌++◌, All, length, map, None, Some, refl, sym, ◌∙◌, ap, subst, arith, append_assoc, append-nil, length-append}
use Rattle.std.proofs.lemmas.List.{map-append}
use Rattle.std.proofs.lemmas.List.Elements.{All-append, All-nil, All-cons}
use Rattle.std.proofs.lemmas.Grind.{flat_map-append}
use Rattle.std.proofs.lemmas.Option.{none-some, same_Some}
use Rattle.std.specs.List.{flat_map}
use Rattle.std.specs.Option.{option_map}
use Rattle.std.specs.declared.option.Option.{Option}
use Rattle.std.specs.Io.KnownBytes.{Appends, Consumes}
use Rattle.edge_base.specs.Causes.{Rose}
use Rattle.edge_base.specs.Clock.{Grows}
use Rattle.history.specs.Event.{History}
use Rattle.location_acl.specs.Table.{GivesPlace}
use Rattle.location_acl.specs.declared.line.PlaceLine.{PlaceLine}
use Rattle.location_acl.specs.declared.footprint.Place.{Place}
use Rattle.node_core.specs.Home.{Who}
use Rattle.session_base.proofs.DoingLemmas.{makes_none, makes_then}
use Rattle.session_base.specs.Doing.{Any, Doing, Makes, Told}
use Rattle.session.specs.Ended.{AllEnded}
use Rattle.session.specs.Session.{Leaves, Session}
use Rattle.session_base.specs.declared.ending.Ending.{Ending}
use Rattle.session_base.specs.declared.ending.Ending.TheVariants as ending
use Rattle.session_base.specs.declared.settings.Settings.{Settings}
use Rattle.upstream_gate.proofs.PlanLemmas.{grows_none, grows_on}
use Rattle.upstream_gate.specs.Outcome.{Exchange}
use Rattle.doors.proofs.EndedLemmas.{all_then, since}
use Rattle.doors.specs.Door.{Accepts, Book, Gave, Given, Passed, Shut, Shuts, Took, One, Closed, Failed, Memory}
use Rattle.doors.specs.Ended.{EndsItsOwn, EndsSince}
use Rattle.doors.specs.Visit.{HasNoneLeft, IsEndOf, IsStep, IsVisit, Serves, Visit, Visited, VisitedIn, calls_of, exchanges_of, given_of, moments_of, passed_of}
use Rattle.doors.specs.declared.serve.DoorEnd.{DoorEnd}
use Rattle.doors.specs.declared.serve.DoorEnd.TheVariants as door_end
use Rattle.doors.specs.declared.serve.Step.{Step}
use Rattle.doors.specs.declared.serve.Step.TheVariants as step

-- ---- one connection

abbrev pub visit_of : (given : Given) (shut : Shut) (d : Doing) (rest : List ℕ) (end : Ending) → Visit
visit_of given shut d rest end = record { given = given; shut = shut; doing = d; rest = rest; ending = end }

-- of what a session over it says
pub was_visit : (settings : Settings) (table : List PlaceLine) (given : Given) (shut : Shut) (d : Doing) (rest : List ℕ) (end : Ending) (place : Place) (read written : ℕ) → read ≡ 0 → written ≡ 0 → GivesPlace table given.ip place → Session settings place d end
    → Consumes given.left shut.left (d.bytes ++ rest) → Appends given.held shut.held d.written → Leaves shut.left rest end → (end ≡ ending.ReadFault → Rose read shut.read_faults) → (end ≡ ending.WriteFault → Rose written shut.write_faults)
    → IsVisit settings table (visit_of given shut d rest end)
was_visit settings table given shut d rest end place read written read_fresh write_fresh placed session took wrote leaves by_read by_write = record {
  place = place;
  placed = placed;
  session = session;
  took = took;
  wrote = wrote;
  leaves = leaves;
  read_cause = λ is. subst (λ (n : ℕ). Rose n shut.read_faults) read_fresh (by_read is);
  write_cause = λ is. subst (λ (n : ℕ). Rose n shut.write_faults) write_fresh (by_write is);
}

-- ---- what a door tells

still : (old new : Book) → new ≡ old → VisitedIn old new []
still old new same = subst (λ (b : Book). VisitedIn old b []) (sym same) (record { left = refl; passed = sym (append-nil old.passed) })

visited_none : (book : Option Book) → Visited book book []
visited_none None = tt
visited_none (Some book) = still book book refl

visited_closed : (old new : Option Book) → Accepts old new Closed → Visited old new []
visited_closed None None is = tt
visited_closed None (Some new) is = elim is [ ]
visited_closed (Some old) None is = tt
visited_closed (Some old) (Some new) is = still old new is.1

visited_failed : (old new : Option Book) → Accepts old new Failed → Visited old new []
visited_failed None None is = tt
visited_failed None (Some new) is = elim is [ ]
visited_failed (Some old) None is = tt
visited_failed (Some old) (Some new) is = still old new is.1

visited_memory : (old new : Option Book) → Accepts old new Memory → Visited old new []
visited_memory None None is = tt
visited_memory None (Some new) is = elim is [ ]
visited_memory (Some old) None is = tt
visited_memory (Some old) (Some new) is = still old new is

has_none : (old new : Option Book) → Accepts old new Closed → HasNoneLeft new
has_none None None is = tt
has_none None (Some new) is = elim is [ ]
has_none (Some old) None is = tt
has_none (Some old) (Some new) is = ap (λ (b : Book). b.left) is.1 ∙ is.0

visited_one : (old middle new : Option Book) (v : Visit) → Accepts old middle (One v.given) → Shuts middle new v.shut → Visited old new (v ∷ [])
visited_one None None None v a s = tt
visited_one None None (Some new) v a s = elim s [ ]
visited_one None (Some middle) new v a s = elim a [ ]
visited_one (Some old) None (Some new) v a s = elim s [ ]
visited_one (Some old) None None v a s = tt
visited_one (Some old) (Some middle) None v a s = tt
visited_one (Some old) (Some middle) (Some new) v a s = record {
  left = a.0 ∙ ap (λ (l : List Given). v.given ∷ l) (sym s.left);
  passed = s.passed ∙ ap (λ (l : List Passed). l ++ Took v.shut ∷ []) a.1 ∙ append_assoc old.passed (Gave v.given ∷ []) (Took v.shut ∷ []);
}

visited_then : (a b c : Option Book) (vs ws : List Visit) → Visited a b vs → Visited b c ws → Visited a c (vs ++ ws)
visited_then None None None vs ws p q = tt
visited_then None None (Some c) vs ws p q = elim q [ ]
visited_then None (Some b) c vs ws p q = elim p [ ]
visited_then (Some a) None (Some c) vs ws p q = elim q [ ]
visited_then (Some a) None None vs ws p q = tt
visited_then (Some a) (Some b) None vs ws p q = tt
visited_then (Some a) (Some b) (Some c) vs ws p q = record {
  left = p.left ∙ ap (λ (l : List Given). map given_of vs ++ l) q.left ∙ sym (append_assoc (map given_of vs) (map given_of ws) c.left) ∙ ap (λ (l : List Given). l ++ c.left) (sym (map-append given_of vs ws));
  passed = q.passed ∙ ap (λ (l : List Passed). l ++ flat_map passed_of ws) p.passed ∙ append_assoc a.passed (flat_map passed_of vs) (flat_map passed_of ws) ∙ ap (λ (l : List Passed). a.passed ++ l) (sym (flat_map-append passed_of vs ws));
}

above : (n : ℕ) → (n ≡ 0 → ⊥) → 0 < n
above zero some = absurd (some refl)
above (suc n) some = omega arith

-- where the calls of each session end what they open, so do those of all
pub visits_ended : ((settings : Settings) (place : Place) (d : Doing) (end : Ending) → Session settings place d end → AllEnded d.calls)
    → (settings : Settings) (table : List PlaceLine) (visits : List Visit) → All (λ (v : Visit). IsVisit settings table v) visits → AllEnded (flat_map calls_of visits)
visits_ended law settings table [] each = tt
visits_ended law settings table (v ∷ visits) each =
    let here : IsVisit settings table v = each 0 v (omega arith) in
    all_then v.doing.calls (flat_map calls_of visits) (law settings here.place v.doing v.ending here.session)
    (visits_ended law settings table visits (λ k d within. each (suc k) d (omega (arith, within))))

-- ---- what is served

module _ (settings : Settings) (table : List PlaceLine) where
  serves_none : (who : Who) (a : History → Type 0) (g : Option (List ℕ)) (t : Option (List Exchange)) (book book' : Option Book) → Visited book book' [] → Serves settings table who a a g g t t book book' []
  serves_none who a g t book book' visited = record {
    each = All-nil (λ (v : Visit). IsVisit settings table v);
    door = visited;
    moments = grows_none g;
    exchanges = grows_none t;
    calls = makes_none who Any a;
  }

  serves_then : (who : Who) (a b c : History → Type 0) (g g' g'' : Option (List ℕ)) (t t' t'' : Option (List Exchange)) (book book' book'' : Option Book) (vs ws : List Visit)
      → Serves settings table who a b g g' t t' book book' vs → Serves settings table who b c g' g'' t' t'' book' book'' ws → Serves settings table who a c g g'' t t'' book book'' (vs ++ ws)
  serves_then who a b c g g' g'' t t' t'' book book' book'' vs ws p q = record {
    each = All-append (λ (v : Visit). IsVisit settings table v) vs ws p.each q.each;
    door = visited_then book book' book'' vs ws p.door q.door;
    moments = subst (Grows g g'') (sym (flat_map-append moments_of vs ws)) (grows_on g g' g'' _ _ p.moments q.moments);
    exchanges = subst (Grows t t'') (sym (flat_map-append exchanges_of vs ws)) (grows_on t t' t'' _ _ p.exchanges q.exchanges);
    calls = subst (Makes who Any a c) (sym (flat_map-append calls_of vs ws)) (makes_then who Any Any a b c _ _ p.calls q.calls (λ h last need told. tt));
  }

  -- what is told of one connection
  abbrev pub Visiting : Who → (History → Type 0) → (History → Type 0) → Option (List ℕ) → Option (List ℕ) → Option (List Exchange) → Option (List Exchange) → Option Book → Option Book → Given → Type 0
  Visiting who a b g g' t t' book book' given = (v : Visit) × IsVisit settings table v × (v.given ≡ given) × Shuts book book' v.shut
      × Grows g g' v.doing.moments × Grows t t' v.doing.exchanges × Makes who Any a b v.doing.calls

  -- what is told of a step
  abbrev pub Stepped : Who → (History → Type 0) → (History → Type 0) → Option (List ℕ) → Option (List ℕ) → Option (List Exchange) → Option (List Exchange) → Option Book → Option Book → Step → Type 0
  Stepped who a b g g' t t' book book' how = (visits : List Visit) × Serves settings table who a b g g' t t' book book' visits × IsStep book' how (length visits)

  pub one_visit : (who : Who) (a b : History → Type 0) (g g' : Option (List ℕ)) (t t' : Option (List Exchange)) (book book' book'' : Option Book) (given : Given)
      → Accepts book book' (One given) → Visiting who a b g g' t t' book' book'' given → Stepped who a b g g' t t' book book'' step.Served
  one_visit who a b g g' t t' book book' book'' given accepts (v, is, same, shuts, moments, exchanges, calls) = (
    v ∷ [],
    record {
      each = All-cons (λ (w : Visit). IsVisit settings table w) v [] is (All-nil (λ (w : Visit). IsVisit settings table w));
      door = visited_one book book' book'' v (subst (λ (x : Given). Accepts book book' (One x)) (sym same) accepts) shuts;
      moments = subst (Grows g g') (sym (append-nil v.doing.moments)) moments;
      exchanges = subst (Grows t t') (sym (append-nil v.doing.exchanges)) exchanges;
      calls = subst (Makes who Any a b) (sym (append-nil v.doing.calls)) calls;
    },
    refl,
  )

  pub none_left : (who : Who) (a : History → Type 0) (g : Option (List ℕ)) (t : Option (List Exchange)) (book book' : Option Book) → Accepts book book' Closed → Stepped who a a g g t t book book' step.Closed
  none_left who a g t book book' is = ([], serves_none who a g t book book' (visited_closed book book' is), (refl, has_none book book' is))

  pub failed : (who : Who) (a : History → Type 0) (g : Option (List ℕ)) (t : Option (List Exchange)) (book book' : Option Book) → Accepts book book' Failed → Stepped who a a g g t t book book' step.Failed
  failed who a g t book book' is = ([], serves_none who a g t book book' (visited_failed book book' is), refl)

  pub no_memory : (who : Who) (a : History → Type 0) (g : Option (List ℕ)) (t : Option (List Exchange)) (book book' : Option Book) → Accepts book book' Memory → Stepped who a a g g t t book book' step.Memory
  no_memory who a g t book book' is = ([], serves_none who a g t book book' (visited_memory book book' is), refl)

  -- ---- the loop

  -- so many remain of these
  abbrev pub Remain : Option ℕ → ℕ → Option ℕ → Type 0
  Remain (Some number) count (Some left) = number ≡ count + left
  Remain (Some number) count None = ⊥
  Remain None count (Some left) = ⊥
  Remain None count None = Unit {0}

  abbrev pub SoFar : Option ℕ → Option ℕ → Who → (History → Type 0) → (History → Type 0) → Option (List ℕ) → Option (List ℕ) → Option (List Exchange) → Option (List Exchange) → Option Book → Option Book → Type 0
  SoFar connections left who a b g g' t t' book book' = (visits : List Visit) × Serves settings table who a b g g' t t' book book' visits × Remain connections (length visits) left

  abbrev pub Ends : Option ℕ → Who → (History → Type 0) → (History → Type 0) → Option (List ℕ) → Option (List ℕ) → Option (List Exchange) → Option (List Exchange) → Option Book → Option Book → DoorEnd → Type 0
  Ends connections who a b g g' t t' book book' end = (visits : List Visit) × Serves settings table who a b g g' t t' book book' visits × IsEndOf connections (length visits) book' end

  remain_all : (connections : Option ℕ) → Remain connections 0 connections
  remain_all None = tt
  remain_all (Some number) = omega arith

  pub begins : (connections : Option ℕ) (who : Who) (a : History → Type 0) (g : Option (List ℕ)) (t : Option (List Exchange)) (book : Option Book) → SoFar connections connections who a a g g t t book book
  begins connections who a g t book = ([], serves_none who a g t book book (visited_none book), remain_all connections)

  one_less : (connections left left' : Option ℕ) (count count' : ℕ) → Remain connections count left → left ≢ Some 0 → left' ≡ option_map (λ n. n - 1) left → count' ≡ count + 1 → Remain connections count' left'
  one_less None None left' count count' remain some is more = subst (Remain None count') (sym is) tt
  one_less None (Some left) left' count count' remain some is more = elim remain [ ]
  one_less (Some number) None left' count count' remain some is more = elim remain [ ]
  one_less (Some number) (Some left) left' count count' remain some is more =
      let positive : 0 < left = above left (λ (none : left ≡ 0). some (ap Some none)) in
      subst (Remain (Some number) count') (sym is) (omega (arith, remain, more, positive))

  pub goes_on : (connections left left' : Option ℕ) (who : Who) (a b c : History → Type 0) (g g' g'' : Option (List ℕ)) (t t' t'' : Option (List Exchange)) (book book' book'' : Option Book)
      → SoFar connections left who a b g g' t t' book book' → left ≢ Some 0 → (v : Who) → v ≡ who → Stepped v b c g' g'' t' t'' book' book'' step.Served → left' ≡ option_map (λ n. n - 1) left
      → SoFar connections left' who a c g g'' t t'' book book''
  goes_on connections left left' who a b c g g' g'' t t' t'' book book' book'' (vs, serves, remain) some v same there is =
      let here = subst (λ (w : Who). Stepped w b c g' g'' t' t'' book' book'' step.Served) same there in (
        vs ++ here.0,
        serves_then who a b c g g' g'' t t' t'' book book' book'' vs here.0 serves here.1,
        one_less connections left left' (length vs) (length (vs ++ here.0)) remain some is (length-append vs here.0 ∙ ap (λ n. length vs + n) here.2),
      )

  all_served : (connections left : Option ℕ) (count : ℕ) → Remain connections count left → left ≡ Some 0 → connections ≡ Some count
  all_served None None count remain none = absurd (none-some _ none)
  all_served None (Some left) count remain none = elim remain [ ]
  all_served (Some number) None count remain none = elim remain [ ]
  all_served (Some number) (Some left) count remain none = ap Some (omega (arith, remain, same_Some _ _ none))

  not_all : (connections left : Option ℕ) (count : ℕ) → Remain connections count left → left ≢ Some 0 → connections ≡ Some count → ⊥
  not_all None None count remain some all = none-some _ all
  not_all None (Some left) count remain some all = elim remain [ ]
  not_all (Some number) None count remain some all = elim remain [ ]
  not_all (Some number) (Some left) count remain some all =
      let same = same_Some _ _ all in
      some (ap Some (omega (arith, remain, same)))

  within : (connections left : Option ℕ) (count : ℕ) → Remain connections count left → (number : ℕ) → connections ≡ Some number → count ≤ number
  within None None count remain number is = absurd (none-some _ is)
  within None (Some left) count remain number is = elim remain [ ]
  within (Some most) None count remain number is = elim remain [ ]
  within (Some most) (Some left) count remain number is = omega (arith, remain, same_Some _ _ is)

  pub used_up : (connections left : Option ℕ) (who : Who) (a b : History → Type 0) (g g' : Option (List ℕ)) (t t' : Option (List Exchange)) (book book' : Option Book)
      → SoFar connections left who a b g g' t t' book book' → left ≡ Some 0 → Ends connections who a b g g' t t' book book' door_end.Served
  used_up connections left who a b g g' t t' book book' (vs, serves, remain) none = (
    vs,
    serves,
    record {
      served = λ is. all_served connections left (length vs) remain none;
      serves = λ all. refl;
      within = within connections left (length vs) remain;
      closed = λ is. absurd (cc);
    },
  )

  stops : (end : DoorEnd) (connections left : Option ℕ) (who : Who) (a b c : History → Type 0) (g g' g'' : Option (List ℕ)) (t t' t'' : Option (List Exchange)) (book book' book'' : Option Book)
      → SoFar connections left who a b g g' t t' book book' → left ≢ Some 0 → (ws : List Visit) → Serves settings table who b c g' g'' t' t'' book' book'' ws → length ws ≡ 0
      → (end ≡ door_end.Served → ⊥) → (end ≡ door_end.Closed → HasNoneLeft book'') → Ends connections who a c g g'' t t'' book book'' end
  stops end connections left who a b c g g' g'' t t' t'' book book' book'' (vs, serves, remain) some ws more none other closes =
      let count : length (vs ++ ws) ≡ length vs = omega (arith, length-append vs ws, none) in (
        vs ++ ws,
        serves_then who a b c g g' g'' t t' t'' book book' book'' vs ws serves more,
        record {
          served = λ is. absurd (other is);
          serves = λ all. absurd (not_all connections left (length vs) remain some (all ∙ ap Some count));
          within = λ number is. subst (λ n. n ≤ number) (sym count) (within connections left (length vs) remain number is);
          closed = closes;
        },
      )

  pub stops_closed : (connections left : Option ℕ) (who : Who) (a b c : History → Type 0) (g g' g'' : Option (List ℕ)) (t t' t'' : Option (List Exchange)) (book book' book'' : Option Book)
      → SoFar connections left who a b g g' t t' book book' → left ≢ Some 0 → (v : Who) → v ≡ who → Stepped v b c g' g'' t' t'' book' book'' step.Closed → Ends connections who a c g g'' t t'' book book'' door_end.Closed
  stops_closed connections left who a b c g g' g'' t t' t'' book book' book'' so some v same there =
      let here = subst (λ (w : Who). Stepped w b c g' g'' t' t'' book' book'' step.Closed) same there in
      stops door_end.Closed connections left who a b c g g' g'' t t' t'' book book' book'' so some here.0 here.1 here.2.0 (λ is. cc) (λ is. here.2.1)

  pub stops_failed : (connections left : Option ℕ) (who : Who) (a b c : History → Type 0) (g g' g'' : Option (List ℕ)) (t t' t'' : Option (List Exchange)) (book book' book'' : Option Book)
      → SoFar connections left who a b g g' t t' book book' → left ≢ Some 0 → (v : Who) → v ≡ who → Stepped v b c g' g'' t' t'' book' book'' step.Failed → Ends connections who a c g g'' t t'' book book'' door_end.Failed
  stops_failed connections left who a b c g g' g'' t t' t'' book book' book'' so some v same there =
      let here = subst (λ (w : Who). Stepped w b c g' g'' t' t'' book' book'' step.Failed) same there in
      stops door_end.Failed connections left who a b c g g' g'' t t' t'' book book' book'' so some here.0 here.1 here.2 (λ is. cc) (λ is. absurd (cc))

  pub stops_memory : (connections left : Option ℕ) (who : Who) (a b c : History → Type 0) (g g' g'' : Option (List ℕ)) (t t' t'' : Option (List Exchange)) (book book' book'' : Option Book)
      → SoFar connections left who a b g g' t t' book book' → left ≢ Some 0 → (v : Who) → v ≡ who → Stepped v b c g' g'' t' t'' book' book'' step.Memory → Ends connections who a c g g'' t t'' book book'' door_end.Memory
  stops_memory connections left who a b c g g' g'' t t' t'' book book' book'' so some v same there =
      let here = subst (λ (w : Who). Stepped w b c g' g'' t' t'' book' book'' step.Memory) same there in
      stops door_end.Memory connections left who a b c g g' g'' t t' t'' book book' book'' so some here.0 here.1 here.2 (λ is. cc) (λ is. absurd (cc))

  -- where the calls of visits end what they open, so do those of all that was served
  pub ends_since : ((settings : Settings) (table : List PlaceLine) (who : Who) (visits : List Visit) (h last : History) → All (λ (v : Visit). IsVisit settings table v) visits → Told who h (flat_map calls_of visits) last → EndsItsOwn who (length h) last)
      → (connections : Option ℕ) (who : Who) (a b : History → Type 0) (g g' : Option (List ℕ)) (t t' : Option (List Exchange)) (book book' : Option Book) (end : DoorEnd) → Ends connections who a b g g' t t' book book' end
      → (h : History) → a h → EndsSince who h b
  ends_since law connections who a b g g' t t' book book' end (visits, serves, is) h saw = since who a b (flat_map calls_of visits) h serves.calls saw (λ last told. law settings table who visits h last serves.each told)
