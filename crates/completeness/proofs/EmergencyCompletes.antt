-- An EmergencyReparentShard that nothing hinders promotes a tablet (Vitess manual).
use Rattle.std.proofs.Common.{◌≡◌, refl, ap, sym, subst, ◌∙◌, arith, ℕ, false, List, [], ◌∷◌, Option, Some, None, Err}
use Rattle.std.specs.List.{slice_get}
use Rattle.shard_calls.specs.declared.command.Command.{Command}
use Rattle.shard_calls.specs.declared.command.Command.TheVariants as commands
use Rattle.shard_calls.specs.declared.command.EmergencyOptions.{EmergencyOptions}
use Rattle.shard_calls.specs.declared.ending.CommandAnswer.{CommandAnswer}
use Rattle.shard_calls.specs.declared.ending.CommandAnswer.TheVariants as answers
use Rattle.shard_calls.specs.declared.event.Event.TheVariants as events
use Rattle.shard_calls.specs.declared.event.Reply.TheVariants as replies
use Rattle.shard_calls.specs.declared.event.Step.{Step}
use Rattle.shard_calls.specs.declared.group.Group.{Group}
use Rattle.shard_calls.specs.declared.refusal.Refusal.{Refusal}
use Rattle.shard_calls.specs.declared.refusal.Refusal.TheVariants as refusals
use Rattle.shard_calls.specs.declared.span.Deed.TheVariants as deeds
use Rattle.shard_calls.specs.declared.state.CommandState.{CommandState}
use Rattle.shard_calls.specs.Commands.{emergency_options}
use Rattle.shard_calls.specs.Refusals.{refusal_by_seen, refusal_of_emergency}
use Rattle.shard_calls.specs.Spans.{span_in}
use Rattle.shard_calls.specs.Table.{IsRun}
use Rattle.shard_calls.specs.World.{Config, group_of, numbered, opening}
use Rattle.shard_calls.specs.Writes.{is_write}
use Rattle.shard_calls.specs.Promotions.{world_at}
use Rattle.courses.specs.declared.demands.Demand.TheVariants as demands
use Rattle.courses.specs.declared.want.Want.TheVariants as wants
use Rattle.courses.specs.Course.{demand}
use Rattle.courses.specs.Emergency.{emergency_course, rescues}
use Rattle.courses.specs.Walks.{Course, reads, takes_lock, unless, ◌>>=◌, ◌>>◌}
use Rattle.recovery_loop.specs.Course.{course_of}
use Rattle.completeness.specs.Following.{Ends, EndsSo, EndsForMemory, out_of_memory}
use Rattle.completeness.specs.Emergency.{NothingHinders}
use Rattle.completeness.specs.Planned.{Completes, WantsMemory}
use Rattle.completeness.proofs.DecidedLemmas.{FollowsAt, course_is, follows_at}
use Rattle.completeness.proofs.GoingLemmas.{IsFirst, Only}
use Rattle.completeness.proofs.MadeLemmas.{all_made, since}
use Rattle.completeness.proofs.EmergencyGoes.{Unhindered, emergency_goes, keeper_of, span_by}
use Rattle.completeness.proofs.PlannedCompletes.{completes_by}
use Rattle.completeness.proofs.TakeLemmas.{EndsIfTaken, not_taken_first}

-- ---- the command

emergency_writes_not : (command : Command) (o : EmergencyOptions) → emergency_options command ≡ Some o → is_write command ≡ false
emergency_writes_not (commands.Write to) o is = absurd (let wrong : None ≡ Some o = is in cc)
emergency_writes_not _ o is = refl

ends_if_taken : (g : Group) (o : EmergencyOptions) → refusal_of_emergency g o ≡ None → EndsIfTaken (emergency_course g o)
unfolding emergency_course
ends_if_taken g o none held rest want demanded = of_refusal (refusal_of_emergency g o) none demanded
  where
    of_refusal : (q : Option Refusal) → q ≡ None
        → demand (unless q >> takes_lock >>= λ t. reads >>= λ seen. unless (refusal_by_seen o.expected o.new_primary seen) >> rescues g o t seen)
        (deeds.Took (Err held) ∷ rest) ≡ demands.Does want → ⊥
    of_refusal None is k = let wrong : demands.Leaves (answers.Refused (refusals.LockTaken held.term held.actor) None) ≡ demands.Does want = k in cc
    of_refusal (Some r) is k = let wrong : Some r ≡ None = is in cc

-- ---- how it ends

pub completes : (config : Config) (ss : List Step) (c j : ℕ) (o : EmergencyOptions) (said : CommandAnswer) → IsRun config ss
    → slice_get ss j ≡ Some (record { event = events.End c said; reply = replies.Ok }) → NothingHinders config ss c j o → Completes said
completes config ss c j o said run here free =
    of_end (free.keeps.leaves free.freed j (record { event = events.Release c; reply = replies.Ok }) (record { event = events.End c said; reply = replies.Ok })
    free.frees refl free.before_end here refl)
  where
    same_end : (x : CommandAnswer) → events.End c said ≡ events.End c x → said ≡ x
    same_end x h = cc

    with_state : (s : CommandState) → numbered (world_at config ss free.freed).commands c ≡ Some s
        → demand (course_of (group_of config) s.command s.opening) (span_in (world_at config ss free.freed).post s) ≡ demands.Leaves said → Completes said
    with_state s there demanded =
        let before = free.before_end in
        let after = since config ss c free.freed j s run (omega (arith, before)) there in
        let same : after.state ≡ free.state = (let both : Some after.state ≡ Some free.state = sym after.here ∙ free.here in cc) in
        let emergency : emergency_options s.command ≡ Some o =
        ap (λ (x : Command). emergency_options x) (sym after.same_command ∙ ap (λ (x : CommandState). x.command) same) ∙ free.emergency in
        let course = course_is (group_of config) s.command s.opening o emergency in
        let follows : FollowsAt config ss = λ k step at. follows_at config (opening config) ss k step free.keeps.follows at in
        let u : Unhindered config ss c j o = record { run = run; free = free; state = s; here = there } in
        let made = all_made config ss c free.freed s (emergency_course (group_of config) o) run follows there (emergency_writes_not s.command o emergency) course in
        let goes = emergency_goes config ss c j o u
        (λ held take. not_taken_first config ss c free.freed (keeper_of config ss c j o u) (emergency_course (group_of config) o) wants.Take held follows
        (emergency_writes_not s.command o emergency) course (ends_if_taken (group_of config) o free.options) take) in
        completes_by (Only IsFirst (emergency_course (group_of config) o)) (emergency_course (group_of config) o (span_by config ss c j o u)).came (span_by config ss c j o u)
        (emergency_course (group_of config) o (span_by config ss c j o u)).rest said (goes (span_by config ss c j o u) (record { before = []; split = refl }) made)
        (ap (λ (x : Course CommandAnswer). demand x (span_by config ss c j o u)) (sym course) ∙ demanded)

    of_end : Ends config (world_at config ss free.freed) c (events.End c said) → Completes said
    of_end (EndsForMemory is) = subst (λ (y : CommandAnswer). Completes y) (sym (same_end out_of_memory is)) WantsMemory
    of_end (EndsSo s x there demanded is) =
        with_state s there (demanded ∙ ap (λ (y : CommandAnswer). demands.Leaves y) (sym (same_end x is)))
