mod LowLaws
