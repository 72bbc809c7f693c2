use Rattle.error_state.proofs.pairs.better_of_part.Goals as goal

pub returns-clause-finds : goal.returns-clause-finds
returns-clause-finds g c =
    rw (c.scan_of-scan.ensures.tables, c.scan_of-scan.ensures.part)
    at c.better_of_scan.ensures.finds
