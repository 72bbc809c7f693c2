mod LengthLemmas
