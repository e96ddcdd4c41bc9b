mod CountingWork
mod NineCalls
mod SampleLoads
mod SampleNesting
mod SamplePins
mod SampleProfiles
mod SampleStakes
mod SampleTracks
