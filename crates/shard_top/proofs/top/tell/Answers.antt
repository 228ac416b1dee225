use Rattle.shard_top.proofs.StreamLemmas.{put_said, put_part, put_cause, put_failed, put_not_read}
use Rattle.shard_top.proofs.top.tell.Goals as goal

pub returns-clause-said : goal.returns-clause-said
returns-clause-said g c = λ calm no6.
    let put = rw (c.deref-3.ensures.value, c.deref-4.ensures.value) at c.put_run-put.ensures in
    let done = rw (c.deref.ensures.value, c.deref-2.ensures.value) at c.status_of-done.ensures.status in
    rw done at (put_said c.put_run-put.result _ _ _ _ _ c.status_of-done.result c.put_status-status.result put c.put_status-status.ensures calm no6)

pub returns-clause-part : goal.returns-clause-part
returns-clause-part g c = put_part c.put_run-put.result _ _ _ _ _ (rw (c.deref-3.ensures.value, c.deref-4.ensures.value) at c.put_run-put.ensures)

pub returns-clause-cause : goal.returns-clause-cause
returns-clause-cause g c = λ at. put_cause c.put_run-put.result _ _ _ _ _ c.status_of-done.result c.put_status-status.result c.status_of-done.ensures.not_streams c.put_run-put.ensures c.put_status-status.ensures at

pub returns-clause-failed : goal.returns-clause-failed
returns-clause-failed g c = λ rose. put_failed c.put_run-put.result _ _ _ _ _ c.status_of-done.result c.put_status-status.result c.put_run-put.ensures c.put_status-status.ensures rose

pub returns-clause-not_read : goal.returns-clause-not_read
returns-clause-not_read g c = put_not_read c.put_run-put.result c.status_of-done.result c.put_status-status.result c.status_of-done.ensures.not_streams c.put_status-status.ensures
