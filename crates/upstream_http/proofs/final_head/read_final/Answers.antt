use Rattle.std.proofs.Common.{arith, ◌∙◌, ap, length, ◌≤◌, ◌<◌, [], refl}
use Rattle.upstream_http.specs.declared.final_head.TheConstants.{INTERIM_MAX, FINAL_MIN}
use Rattle.upstream_http.proofs.FinalLemmas.{begins_empty, one_more, final_is, one_too_many, bad_head, cut_head, no_more, some_came, size_short}
use Rattle.upstream_http.proofs.final_head.read_final.Goals as goal

pub heads-init : goal.heads-init
heads-init g c = record { so_far = ([], tt, refl, begins_empty _ c.args.inbox.now c.requires, refl); few = omega arith; short = omega arith; answered = refl }

pub returns-then-status-ge-FINAL_MIN-clause-bytes : goal.returns-then-status-ge-FINAL_MIN-clause-bytes
returns-then-status-ge-FINAL_MIN-clause-bytes g c =
    let far = c.heads.invariant.so_far in
    let head = c.in-Head.ensures.bytes in
    let few : length far.0 ≤ INTERIM_MAX = omega (arith, far.2, c.heads.invariant.few) in
    rw c.size.ensures (final_is _ _ _ _ _ _ far.0 c.in-Head.head c.heads.taken far.3 far.1 few far.4 head.1 head.2 (omega (arith, c.if-status-ge-FINAL_MIN.true, c.status.ensures)))

pub returns-then-skipped-eq-INTERIM_MAX-clause-bytes : goal.returns-then-skipped-eq-INTERIM_MAX-clause-bytes
returns-then-skipped-eq-INTERIM_MAX-clause-bytes g c =
    let far = c.heads.invariant.so_far in
    let head = c.in-Head.ensures.bytes in
    let low : c.in-Head.head.status < FINAL_MIN = omega (arith, c.if-status-ge-FINAL_MIN.false, c.status.ensures) in
    let more = one_more _ _ _ _ _ _ far.0 c.in-Head.head far.3 far.1 head.1 head.2 low in
    one_too_many _ _ _ more.0 _ more.3 more.1 (omega (arith, more.2, far.2, c.if-skipped-eq-INTERIM_MAX.true))
    (omega (arith, more.4, far.4, c.size.ensures, ap length c.bytes.ensures.bytes, c.saturating_add.ensures))

pub heads-preserved : goal.heads-preserved
heads-preserved g c =
    let far = c.heads.invariant.so_far in
    let head = c.in-Head.ensures.bytes in
    let low : c.in-Head.head.status < FINAL_MIN = omega (arith, c.if-status-ge-FINAL_MIN.false, c.status.ensures) in
    let more = one_more _ _ _ _ _ _ far.0 c.in-Head.head far.3 far.1 head.1 head.2 low in
    record {
      so_far = (more.0, more.1, omega (arith, more.2, far.2), more.3, omega (arith, more.4, far.4, c.size.ensures));
      few = omega (arith, c.heads.invariant.few, c.if-skipped-eq-INTERIM_MAX.false);
      short = omega (arith, c.heads.invariant.short, c.size.ensures, size_short head.0 c.in-Head.head head.2);
      answered = c.in-Head.ensures.cause.answered (λ e. cc) ∙ c.heads.invariant.answered;
    }

pub returns-in-CutShort-clause-bytes : goal.returns-in-CutShort-clause-bytes
returns-in-CutShort-clause-bytes g c =
    let far = c.heads.invariant.so_far in
    rw c.saturating_add-in-CutShort.ensures (cut_head _ _ _ _ _ far.0 c.heads.taken c.in-CutShort.more far.3 far.1 (omega (arith, far.2, c.heads.invariant.few)) far.4 c.in-CutShort.ensures.bytes)

pub returns-in-BadHead-clause-bytes : goal.returns-in-BadHead-clause-bytes
returns-in-BadHead-clause-bytes g c =
    let far = c.heads.invariant.so_far in
    rw c.saturating_add-in-BadHead.ensures (bad_head _ _ _ _ _ far.0 c.heads.taken c.in-BadHead.more far.3 far.1 (omega (arith, far.2, c.heads.invariant.few)) far.4 c.in-BadHead.ensures.bytes)

pub returns-in-Ended-clause-bytes : goal.returns-in-Ended-clause-bytes
returns-in-Ended-clause-bytes g c =
    let far = c.heads.invariant.so_far in
    no_more _ _ _ _ _ far.0 c.heads.taken far.3 far.1 (omega (arith, far.2, c.heads.invariant.few)) far.4 (omega (arith, c.heads.invariant.short, c.heads.invariant.few)) c.in-Ended.ensures.bytes

pub returns-in-ReadFault-clause-bytes : goal.returns-in-ReadFault-clause-bytes
returns-in-ReadFault-clause-bytes g c =
    let far = c.heads.invariant.so_far in some_came _ _ _ _ _ far.0 far.3 c.in-ReadFault.ensures.bytes

pub returns-in-Memory-clause-bytes : goal.returns-in-Memory-clause-bytes
returns-in-Memory-clause-bytes g c =
    let far = c.heads.invariant.so_far in some_came _ _ _ _ _ far.0 far.3 c.in-Memory.ensures.bytes
